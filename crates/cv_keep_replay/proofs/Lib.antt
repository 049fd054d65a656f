pub mod Adding
pub mod Alone
pub mod Claims
pub mod FirstBad
pub mod Going
pub mod ReadyEvents
pub mod Records
pub mod Replies
