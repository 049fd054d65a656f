mod Examples
pub mod Keys
pub mod Numbers
pub mod ReadBack
pub mod Runs
pub mod Spelled
pub mod Words
