-- What the contracts of the crate cite.
pub mod Request
pub mod Sent
