mod Examples
pub mod LeastLemmas
pub mod RoundLemmas
