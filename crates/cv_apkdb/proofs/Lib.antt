mod Examples
pub mod Same
