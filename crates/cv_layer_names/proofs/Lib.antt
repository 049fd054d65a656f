mod Examples
pub mod FileNames
pub mod Keyed
pub mod Listed
