pub mod Listed
pub mod Loaded
pub mod TableLaws
pub mod TableRow
pub mod TableSteps
