pub mod Coalesced
pub mod Gathered
pub mod Hides
pub mod Image
pub mod code
