pub mod Adding
pub mod Comparing
pub mod Crossing
pub mod Fresh
pub mod Made
pub mod Posts
pub mod Prefixes
pub mod Shown
