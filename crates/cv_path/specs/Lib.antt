pub mod Answer
pub mod Cuts
pub mod Path
pub mod Place
pub mod Reading
pub mod Texts
pub mod code
