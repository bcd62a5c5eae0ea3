pub mod Holding
pub mod Views
pub mod Order
pub mod Steps
pub mod Passes
pub mod Ended
