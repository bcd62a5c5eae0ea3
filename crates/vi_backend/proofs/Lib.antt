pub mod Cached
pub mod Cascade
pub mod Agreeing
pub mod Copying
pub mod Marking
