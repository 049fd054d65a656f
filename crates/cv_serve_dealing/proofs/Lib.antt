pub mod DealLemmas
pub mod MergeLemmas
