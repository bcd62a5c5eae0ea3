pub mod LoadScript
pub mod Summaries
pub mod Laws
