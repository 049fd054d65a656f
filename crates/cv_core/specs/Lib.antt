pub mod Boards
pub mod Core
pub mod Planned
pub mod Reports
pub mod code
