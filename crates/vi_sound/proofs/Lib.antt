pub mod Values
pub mod Moves
pub mod Space
pub mod Falling
pub mod Laws
pub mod Rows
pub mod Playable
