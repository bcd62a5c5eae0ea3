pub mod Written
pub mod Followed
pub mod Laws
pub mod Kept
