-- Words that only retell private functions.
pub mod Appended
pub mod Member
