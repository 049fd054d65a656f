pub mod Pages
pub mod code
