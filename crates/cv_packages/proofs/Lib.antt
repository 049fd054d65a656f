pub mod Examples
mod FileExamples
pub mod FileLemmas
