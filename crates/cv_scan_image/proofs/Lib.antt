pub mod Blamed
pub mod ListLemmas
pub mod PlaceLemmas
pub mod ScanLemmas
