pub mod Coding
pub mod Lanes
pub mod Inside
