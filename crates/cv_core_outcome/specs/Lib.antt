pub mod Facts
pub mod Outcome
pub mod Truth
pub mod Update
