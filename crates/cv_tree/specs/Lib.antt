pub mod Entries
pub mod Heights
pub mod Nodes
pub mod Shapes
pub mod code
