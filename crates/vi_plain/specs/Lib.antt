pub mod Kept
pub mod Conditions
