pub mod Lane
pub mod Own
pub mod RequestOrigin
pub mod Refreshed
pub mod Worker
