pub mod Noted
pub mod Sound
pub mod code
