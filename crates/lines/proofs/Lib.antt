pub mod Digits
pub mod Either
pub mod OneReply
