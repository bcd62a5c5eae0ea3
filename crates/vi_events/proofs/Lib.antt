pub mod Rings
pub mod Waiting
