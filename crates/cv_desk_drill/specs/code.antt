pub mod GeneratedDistinct
pub mod GeneratedEntry
pub mod GeneratedLaws
pub mod GeneratedNames
pub mod GeneratedPaths
pub mod HostileLaws
