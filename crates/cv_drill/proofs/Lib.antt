mod Examples
mod Floats
mod InputExamples
mod Items
pub mod Lists
mod Numbers
mod RecordExamples
pub mod RecordFloats
mod Reports
mod Sizes
