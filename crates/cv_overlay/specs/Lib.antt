pub mod Ascending
pub mod Fault
pub mod Lay
pub mod Mark
pub mod Refusal
pub mod code
