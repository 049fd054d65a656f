pub use Rattle.cv_scan_output.proofs.Floats
mod Examples
pub mod OrderLemmas
pub mod Plain
pub mod Tags
