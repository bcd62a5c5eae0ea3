pub mod Shapes
pub mod Moves
pub mod Held
pub mod Trees
