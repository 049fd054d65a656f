pub mod Fix
pub mod Order
pub mod ReadRange
pub mod Within
pub mod code
