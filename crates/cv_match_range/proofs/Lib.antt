pub mod EventsRead
mod Examples
pub mod Fixes
pub mod Introductions
pub mod Mapped
