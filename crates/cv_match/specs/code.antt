pub mod Entries
pub mod Hit
pub mod Keyed
pub mod Kinds
