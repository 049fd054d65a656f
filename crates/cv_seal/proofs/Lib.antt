mod Examples
pub mod SealLemmas
