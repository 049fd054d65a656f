pub mod Seal
pub mod Taken
pub mod Tree
pub mod code
