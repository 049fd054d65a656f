pub mod Ends
pub mod FirstLines
pub mod ListLemmas
pub mod ListRuns
pub mod NoLineEnd
pub mod OutcomeLemmas
pub mod SameFindings
pub mod Versions
