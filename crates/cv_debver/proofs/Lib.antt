mod Examples
pub mod Hyphens
pub mod Pairs
pub mod Written
