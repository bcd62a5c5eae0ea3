pub mod Own
pub mod Aims
pub mod Wishes
pub mod Frames
pub mod Accesses
pub mod Laws
