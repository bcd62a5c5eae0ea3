pub mod Finished
pub mod Laws
pub mod Unmapped
