pub mod Multiples
pub mod Rising
pub mod Walking
pub mod Apart
pub mod Same
pub mod Finding
pub mod Keeping
