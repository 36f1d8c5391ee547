-- The laws of answering that belong to no one function.
pub mod Rows
pub mod Holding
pub mod Marks
pub mod Choosing
pub mod Marking
pub mod Searching
pub mod Checking
pub mod Answered
pub mod Lined
pub mod Rounds
pub mod Playing
pub mod OneReply
pub mod Held
