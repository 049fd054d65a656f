pub mod ChangeLemmas
pub mod ChosenLemmas
pub mod CountLemmas
pub mod EntryLemmas
mod Examples
pub mod ForkLemmas
pub mod HeightLemmas
pub mod KeyLemmas
pub mod RemadeLemmas
pub mod TreeLemmas
pub mod ValueLemmas
