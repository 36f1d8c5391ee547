pub mod Counting
pub mod Fairness
pub mod Accepting
pub mod OneReply
