pub mod First
pub mod Parts
pub mod Reading
pub mod Values
