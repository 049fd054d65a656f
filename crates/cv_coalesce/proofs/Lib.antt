mod Examples
pub mod GatheredLemmas
pub mod ImageLemmas
pub mod KnownLemmas
pub mod LayerLemmas
pub mod OneLayer
pub mod ReadLemmas
pub mod SearchLemmas
