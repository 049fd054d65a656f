pub mod Cause
pub mod Claims
pub mod Good
pub mod Kept
pub mod code
