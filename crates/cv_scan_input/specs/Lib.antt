pub mod Answer
pub mod Request
pub mod Taken
pub mod Unrefused
pub mod code
