pub mod Feeds
pub mod Patch
pub mod Touched
pub mod code
