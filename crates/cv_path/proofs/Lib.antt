pub mod Bools
pub mod Cuts
pub mod Ends
mod Examples
pub mod PathEnds
pub mod PathFronts
pub mod PathLemmas
pub mod PathReads
pub mod PathSlashes
pub mod PlaceLemmas
pub mod Same
