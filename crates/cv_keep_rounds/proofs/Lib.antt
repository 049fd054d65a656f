pub mod EventLemmas
pub mod KeepLemmas
pub mod TextLemmas
mod Examples
