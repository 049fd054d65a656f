pub mod Fault
pub mod Limits
pub mod Line
pub mod Manifest
pub mod Member
pub mod Request
pub mod code
