pub mod AgainLemmas
mod Examples
pub mod FactLemmas
pub mod GatherLemmas
pub mod TruthLemmas
