pub mod Ended
pub mod Going
pub mod PushLaws
pub mod Pushing
