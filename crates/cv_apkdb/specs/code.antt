pub mod Follows
pub mod Steps
