pub mod Drawn
pub mod Finished
pub mod Runs
pub mod Simulated
