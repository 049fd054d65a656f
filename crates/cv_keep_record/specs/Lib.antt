pub mod Record
pub mod code
