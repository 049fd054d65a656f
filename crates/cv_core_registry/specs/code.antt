pub mod Tables
pub mod Users
pub mod Waiting
