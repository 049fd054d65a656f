pub mod Errors
pub mod Gather
pub mod Lines
