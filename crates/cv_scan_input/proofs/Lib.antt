pub mod Accepted
mod Examples
pub mod Lines
pub mod Progress
pub mod Refusals
pub mod Taken
