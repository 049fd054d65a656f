-- Definitions that only restate private functions.
pub mod Ends
pub mod Reading
