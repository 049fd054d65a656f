-- Words that only retell private functions.
pub mod Accepted
pub mod Memory
pub mod Remaining
pub mod TakenParts
