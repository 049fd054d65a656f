pub mod Bad
pub mod Finding
pub mod Line
pub mod Refusal
pub mod Scan
