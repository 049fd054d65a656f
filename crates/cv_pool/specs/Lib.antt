pub mod Jobs
pub mod Hands
pub mod code
