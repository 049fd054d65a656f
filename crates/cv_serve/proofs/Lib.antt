pub mod Ending
mod Fronts
mod Input
pub mod Lines
mod Quiet
mod UpTo
pub mod WorkerDesks
