mod Examples
pub mod LookupLemmas
pub mod Lookups
pub mod PartLemmas
pub mod ReadLemmas
pub mod RematchLemmas
pub mod RowLemmas
