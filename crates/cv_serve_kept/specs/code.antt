-- Words that only retell private functions.
pub mod Stops
