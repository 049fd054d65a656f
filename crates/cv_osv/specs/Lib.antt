pub mod Answer
pub mod Faults
pub mod Json
pub mod Record
pub mod RecordAnswer
pub mod Records
pub mod code
