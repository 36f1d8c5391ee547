pub mod Numbered
pub mod Spots
pub mod SetUp
pub mod Storing
pub mod Kept
