pub use Rattle.cv_serve_lanes.proofs.WorkerLemmas
pub mod Counts
pub mod Done
mod Ending
pub mod Further
pub mod LaneLineLemmas
pub mod LegalRoundLemmas
pub mod Lines
mod Prepared
mod Queued
pub mod ReplayLemmas
pub mod SeatingLemmas
mod Seats
pub mod Stops
pub mod WalkLemmas
pub mod WholeLemmas
mod Written
