pub mod ThreadLemmas
pub mod RunLemmas
pub mod LoadLemmas
