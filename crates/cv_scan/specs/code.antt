-- Definitions for the clauses of private functions.
pub mod Distinct
pub mod Failed
pub mod Layers
pub mod Plain
