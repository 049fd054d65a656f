pub mod Attempts
pub mod HookText
pub mod Pushed
pub mod Pushes
pub mod Rounds
pub mod code
