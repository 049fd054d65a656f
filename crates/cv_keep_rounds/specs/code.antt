pub mod Events
pub mod Lookup
