pub mod AgainLemmas
pub mod AgainRounds
pub mod AttemptLemmas
mod Examples
pub mod Mapping
pub mod NumberLemmas
pub mod OfferLemmas
pub mod PushLemmas
pub mod Pushing
pub mod RoundLemmas
pub mod SeatLemmas
pub mod TextLemmas
pub mod WaitLemmas
pub mod WaitRounds
