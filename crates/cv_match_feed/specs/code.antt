-- Definitions for the clauses of private functions.
pub mod Found
pub mod Index
pub mod Slots
