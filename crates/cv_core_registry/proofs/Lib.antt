pub mod EventLemmas
mod Examples
pub mod ListLemmas
pub mod TableLemmas
pub mod UserLemmas
pub mod WaitingLemmas
