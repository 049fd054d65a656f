pub mod Ends
mod Examples
pub mod Firsts
pub mod Names
