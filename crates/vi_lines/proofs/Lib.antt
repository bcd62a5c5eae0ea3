pub mod IndexLemmas
pub mod TransferLemmas
