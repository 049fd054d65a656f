pub mod Holdings
pub mod Knowledge
pub mod code
