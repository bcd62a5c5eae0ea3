pub mod Exact
pub mod OneReading
pub mod Written
