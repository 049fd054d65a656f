pub mod Fields
pub mod Metadata
pub mod Name
pub mod code
