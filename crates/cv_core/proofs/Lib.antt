mod BoardExamples
pub mod BoardLemmas
pub mod CoreLemmas
pub mod Crossing
mod Examples
pub mod PatchLemmas
pub mod ReadLemmas
mod StepExamples
pub mod TryLemmas
