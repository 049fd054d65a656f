pub mod CoverLemmas
mod Examples
pub mod MergeLemmas
pub mod ParentLemmas
pub mod PathLemmas
pub mod SearchLemmas
pub mod TextLemmas
