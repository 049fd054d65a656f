pub mod Changes
pub mod Kept
pub mod Names
pub mod Replies
