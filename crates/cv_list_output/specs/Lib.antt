pub mod Fault
pub mod Good
