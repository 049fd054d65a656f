pub mod Images
pub mod Lines
pub mod Records
pub mod Script
pub mod Summary
pub mod Transcript
