-- Definitions for the clauses of private functions.
pub mod Faults
pub mod Packages
