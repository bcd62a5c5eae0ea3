pub mod Value
pub mod Buffers
pub mod Inside
pub mod Queue
