pub mod Follows
pub mod NameLaws
pub mod Names
pub mod NextWord
pub mod Steps
