pub mod HidesLemmas
pub mod ListingLemmas
pub mod OrderLemmas
pub mod PlacedLemmas
pub mod ReadLemmas
pub mod SealLemmas
pub mod TargetLemmas
