mod Examples
pub mod LayerLimit
pub mod Layers
pub mod Lists
pub mod Records
pub mod Texts
