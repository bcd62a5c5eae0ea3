pub mod Keeping
pub mod Reaching
pub mod Places
pub mod Opening
pub mod Pages
pub mod Staying
