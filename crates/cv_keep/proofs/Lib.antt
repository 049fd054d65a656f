pub mod EndLemmas
mod Examples
pub mod MemoryLemmas
pub mod Moments
pub mod ReadLemmas
pub mod RecordLemmas
