-- What the contracts of `nodes` cite.
pub mod Nodes
pub mod Table
pub mod Weighing
pub mod Collecting
pub mod Order
pub mod Sheets
