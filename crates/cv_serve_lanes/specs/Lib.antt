pub use Rattle.cv_core.specs.Core
pub use Rattle.cv_hub.specs.Events
pub use Rattle.cv_hub.specs.Seats
pub mod Counts
pub mod Submissions
pub mod code
