-- The laws that belong to no one function.
pub mod Line
pub mod Numbers
pub mod Samples
pub mod Writing
