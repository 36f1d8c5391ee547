-- What the contracts of `sheet` cite.
pub mod Table
pub mod Naming
pub mod Playing
pub mod Promise
