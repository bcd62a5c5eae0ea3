pub mod Values
pub mod Tables
pub mod Kept
pub mod Seated
pub mod Aims
pub mod Ends
