pub mod Errors
pub mod MemoryLaws
pub mod Spoil
pub mod Walk
