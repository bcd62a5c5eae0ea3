pub mod Takes
pub mod Views
pub mod Ties
pub mod Removes
