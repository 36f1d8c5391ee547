-- The laws of picking and searching that belong to no one function.
pub mod Picking
pub mod GoingOn
pub mod Ahead
pub mod Searching
pub mod Seating
pub mod OneReply
