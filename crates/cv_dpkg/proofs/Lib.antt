mod Examples
pub mod Printing
pub mod SameNames
pub mod ThirdWord
