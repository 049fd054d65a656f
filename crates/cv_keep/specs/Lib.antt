pub mod Disk
pub mod Fault
pub mod Journal
pub mod Memory
pub mod Records
pub mod code
