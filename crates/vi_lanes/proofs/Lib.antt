pub mod Kept
pub mod Tables
pub mod Moves
pub mod Calls
