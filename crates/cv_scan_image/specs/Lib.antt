pub mod Packages
pub mod code
