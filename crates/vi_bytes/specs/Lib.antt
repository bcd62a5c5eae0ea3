pub mod Spans
pub mod Parts
pub mod Fields
pub mod Properties
pub mod FaultRecords
pub mod Mappings
pub mod Leases
