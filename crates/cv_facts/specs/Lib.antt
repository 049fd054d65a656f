pub mod Cause
pub mod Cover
pub mod Files
pub mod Order
pub mod Reads
pub mod Reduction
pub mod Sealed
pub mod code
