pub mod Arguments
pub mod Drill
pub mod Keep
pub mod ListRuns
pub mod Push
pub mod Run
pub mod Service
pub mod code
