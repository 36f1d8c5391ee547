-- What the contracts of the crate cite.
pub mod Line
pub mod All
pub mod Writing
