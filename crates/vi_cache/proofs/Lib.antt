pub mod Lists
pub mod Separate
pub mod Puts
