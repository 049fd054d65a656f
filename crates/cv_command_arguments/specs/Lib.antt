pub mod Forms
pub mod Simple
pub mod Values
pub mod Versions
