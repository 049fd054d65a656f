pub mod Ends
pub mod Lines
pub mod Rounds
pub mod Start
pub mod code
