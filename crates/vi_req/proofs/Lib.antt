pub mod Exact
pub mod Zeros
pub mod RequestLemmas
pub mod ReadingLemmas
