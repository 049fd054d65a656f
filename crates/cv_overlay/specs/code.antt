-- Definitions for the clauses of private functions.
pub mod Cover
pub mod Merge
pub mod Step
pub mod Text
