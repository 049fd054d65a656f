mod Examples
pub mod Fronts
pub mod Places
pub mod Runs
