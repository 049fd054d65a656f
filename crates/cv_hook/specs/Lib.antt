pub mod Attempts
pub mod Memory
pub mod Offers
