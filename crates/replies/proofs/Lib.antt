-- The laws that belong to no one function.
pub mod Looking
pub mod Laid
pub mod Replying
pub mod Gathering
pub mod Moving
pub mod OneReply
pub mod Samples
