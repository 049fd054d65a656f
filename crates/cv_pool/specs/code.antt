-- Definitions that only restate private functions.
pub mod Accounts
pub mod Filling
pub mod Gathering
pub mod HandParts
pub mod Owners
pub mod Seats
pub mod Tasks
