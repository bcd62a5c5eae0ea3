pub mod Insertions
pub mod Granules
pub mod Readings
pub mod Domains
pub mod Outcomes
