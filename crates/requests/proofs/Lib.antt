-- The laws that belong to no one function.
pub mod Numbers
pub mod Fields
pub mod Listing
pub mod Reading
pub mod Finding
pub mod OneRequest
pub mod Samples
