pub mod Lookup
pub mod Walk
