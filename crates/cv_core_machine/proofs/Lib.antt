mod Boards
pub mod Consistent
pub mod Entries
pub mod Examples
pub mod FeedEvents
pub mod FeedLemmas
mod Generations
pub mod LayerTables
mod NoticeLemmas
mod Stepped
