pub mod Ecosystem
pub mod System
pub mod Value
pub mod code
