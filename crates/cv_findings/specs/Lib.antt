pub mod Pairs
pub mod Parts
pub mod Rematch
pub mod Rows
pub mod code
