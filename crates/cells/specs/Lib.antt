-- What the contracts of `cells` cite.
pub mod Cells
pub mod Growing
pub mod Rows
