pub mod Folder
pub mod code
