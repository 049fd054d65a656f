pub mod AccountLemmas
pub mod Crossing
mod Examples
pub mod FillLemmas
pub mod GatherLemmas
pub mod HandLemmas
pub mod LawLemmas
pub mod SeatLemmas
pub mod TaskLemmas
