pub mod Finds
pub mod RowLemmas
pub mod MarkLemmas
