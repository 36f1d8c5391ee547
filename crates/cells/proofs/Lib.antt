-- The laws that belong to no one function.
pub mod Blocks
pub mod Counted
pub mod Bits
pub mod Grown
pub mod Held
pub mod InRows
pub mod Neighbours
pub mod Places
pub mod Reached
pub mod Room
pub mod OnSides
pub mod Smallest
pub mod Beyond
pub mod Words
pub mod Growing
pub mod OneReply
