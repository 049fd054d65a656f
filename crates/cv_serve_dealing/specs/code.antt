pub mod Dealt
pub mod Merge
