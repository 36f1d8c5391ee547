-- The laws of the node table that belong to no one function.
pub mod Limited
pub mod Trees
pub mod Table
pub mod Walk
pub mod Weighing
pub mod Collecting
pub mod RowCells
pub mod Order
pub mod Beside
pub mod Sheets
