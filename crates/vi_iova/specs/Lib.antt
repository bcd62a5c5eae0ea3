pub mod Spaces
pub mod Reached
pub mod Faults
pub mod Order
pub mod Walks
