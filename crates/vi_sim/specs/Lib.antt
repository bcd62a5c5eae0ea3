pub mod Schedule
pub mod Simulated
