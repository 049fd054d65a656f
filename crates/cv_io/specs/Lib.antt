pub mod Fault
pub mod Lines
pub mod Memory
pub mod Reader
pub mod Standard
pub mod Takes
pub mod Writes
pub mod code
