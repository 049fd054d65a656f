pub use Rattle.cv_serve_round.specs.Round
pub mod Done
pub mod Kept
pub mod Quiet
pub mod Served
pub mod code
