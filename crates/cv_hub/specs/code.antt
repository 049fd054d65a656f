pub mod Locked
pub mod Posting
