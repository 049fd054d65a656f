pub mod Installed
pub mod Package
pub mod code
