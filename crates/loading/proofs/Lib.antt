pub mod Reading
pub mod OneReply
