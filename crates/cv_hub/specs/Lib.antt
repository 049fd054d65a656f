pub use Rattle.cv_core.specs.Core
pub use Rattle.cv_core.specs.Reports
pub use Rattle.cv_hub_seats.specs.Events
pub use Rattle.cv_hub_seats.specs.Seats
pub mod code
