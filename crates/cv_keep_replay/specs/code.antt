pub mod Alone
pub mod Counts
pub mod Ready
pub mod Record
