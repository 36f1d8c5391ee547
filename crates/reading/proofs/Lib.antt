pub mod Refusing
pub mod OnBoard
pub mod Line
pub mod SettingUp
pub mod Storing
pub mod Standing
pub mod Body
pub mod OneReply
