pub mod Batches
pub mod Finished
pub mod Kept
pub mod Parcels
