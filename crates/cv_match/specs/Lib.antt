pub use Rattle.cv_match_range.specs.Order
pub use Rattle.cv_match_range.specs.Within
pub mod Affects
pub mod Answer
pub mod Findings
pub mod Keys
pub mod Prepared
pub mod code
