pub mod Crossing
mod Examples
pub mod FindingsLaws
pub mod Keyed
pub mod Keys
pub mod Mapped
pub mod Meaning
pub mod PackageOrder
