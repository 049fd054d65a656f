pub mod Component
pub mod Fault
pub mod ListRead
pub mod ListText
pub mod Listable
pub mod Member
pub mod code
