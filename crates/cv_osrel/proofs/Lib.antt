pub mod Assignments
pub mod Digits
mod Examples
pub mod Lasts
pub mod Quotes
