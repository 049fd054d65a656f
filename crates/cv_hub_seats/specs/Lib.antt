pub mod Events
pub mod Posts
pub mod Seats
pub mod code
