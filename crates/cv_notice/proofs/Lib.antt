mod Examples
pub mod PageLemmas
pub mod SearchLemmas
pub mod StandingLemmas
