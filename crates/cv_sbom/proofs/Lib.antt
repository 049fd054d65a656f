pub mod BelowTop
mod Examples
mod Floats
pub mod ListLaws
pub mod Ordered
pub mod Printed
pub mod ReadBack
pub mod Texts
