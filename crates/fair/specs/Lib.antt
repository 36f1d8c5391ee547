pub mod Faults
pub mod Twice
