pub mod AllItems
mod Examples
pub mod Orders
pub mod Utf8
