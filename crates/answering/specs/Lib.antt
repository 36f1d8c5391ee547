-- What the contracts of `answering` cite.
pub mod Rows
pub mod Marks
pub mod Choosing
pub mod Playing
