-- Definitions for the clauses of private functions.
pub mod Fronts
pub mod Known
pub mod Merged
pub mod Search
pub mod Trees
