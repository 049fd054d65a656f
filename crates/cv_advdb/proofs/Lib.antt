pub mod Crossing
mod Examples
pub mod FeedLemmas
pub mod IndexLemmas
pub mod Merged
pub mod NameLemmas
pub mod Patched
pub mod Searched
pub mod SortedLists
pub mod TouchedLemmas
pub mod Walked
