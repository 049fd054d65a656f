pub mod Cuts
pub mod PathText
