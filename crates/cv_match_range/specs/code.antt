pub mod Reading
pub mod Walk
