mod Examples
pub mod Fronts
pub mod Numbers
pub mod Pieces
pub mod Places
pub mod ReadBack
pub mod Spelled
