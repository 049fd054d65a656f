pub mod Audit
pub mod Book
pub mod Views
