pub mod Failing
pub mod Gate
