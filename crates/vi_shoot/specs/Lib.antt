pub mod Waits
pub mod Reaches
pub mod Removals
