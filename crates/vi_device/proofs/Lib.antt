pub mod TableLemmas
pub mod ListLemmas
pub mod DistinctLemmas
pub mod KeptLemmas
pub mod SeatLemmas
pub mod StatusLemmas
pub mod EffectLemmas
pub mod RunLemmas
