pub mod Value
pub mod Frames
pub mod Inside
