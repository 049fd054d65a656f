pub mod Assembled
mod CompleteExamples
mod Divided
mod Ended
mod Examples
mod Generations
pub mod History
pub mod Order
mod PatchExamples
mod Pending
pub mod Segments
pub mod Serving
mod Settled
mod Steps
mod Stood
mod Unique
pub mod Whole
mod Work
