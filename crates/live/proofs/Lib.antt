pub mod Sharing
pub mod Looking
pub mod Asking
pub mod Idle
pub mod Thinning
pub mod Held
pub mod OneReply
