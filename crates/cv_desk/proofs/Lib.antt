pub mod LoadedLayers
pub mod PathSets
pub mod ReadCounts
