pub use Rattle.cv_core.specs.Core
