-- What the contracts of `live` cite.
pub mod Looking
pub mod Thinning
