pub mod Begun
pub mod LineParts
pub mod Parts
pub mod Ran
pub mod WrittenLaws
