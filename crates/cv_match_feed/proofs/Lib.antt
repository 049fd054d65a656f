pub mod FindLemmas
pub mod FoundLemmas
pub mod Indices
pub mod Lookup
pub mod Merged
pub mod PutLemmas
pub mod SlotLemmas
