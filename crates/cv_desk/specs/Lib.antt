pub mod Counts
pub mod Fault
pub mod Loaded
pub mod Row
pub mod Stored
pub mod Table
pub mod code
