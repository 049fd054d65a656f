pub mod Appended
mod Examples
pub mod FirstFault
pub mod Indices
pub mod Onto
mod RecordExamples
