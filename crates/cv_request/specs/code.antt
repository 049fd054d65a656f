-- Words that only retell private functions and conversions.
pub mod Records
