pub mod Generated
pub mod Hostile
pub mod code
