pub mod FaultRecordLemmas
pub mod PartLemmas
pub mod PropertyLemmas
pub mod SpanLemmas
pub mod LeaseLemmas
