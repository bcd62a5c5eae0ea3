pub mod Actors
pub mod Taking
pub mod Turns
pub mod Roles
pub mod Runs
