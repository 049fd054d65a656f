mod Crossing
pub mod Remaining
