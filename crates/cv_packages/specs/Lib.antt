pub mod Faults
pub mod Files
pub mod Found
pub mod Packages
pub mod Texts
pub mod code
