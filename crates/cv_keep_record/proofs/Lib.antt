pub mod EventLemmas
pub mod FieldLemmas
pub mod WriteLemmas
mod Examples
