mod Examples
pub mod FactTables
pub mod KeptLemmas
mod KnowledgeExamples
pub mod LeadLemmas
pub mod NamedLemmas
pub mod RenewedLemmas
pub mod StepLemmas
pub mod TouchedLemmas
