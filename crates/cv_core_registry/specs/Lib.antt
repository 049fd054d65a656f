pub mod Registrations
pub mod code
