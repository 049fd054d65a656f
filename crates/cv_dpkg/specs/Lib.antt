pub mod Fields
pub mod Status
pub mod code
