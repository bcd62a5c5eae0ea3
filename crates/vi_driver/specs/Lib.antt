pub mod Parcels
pub mod Drivers
pub mod Wishes
pub mod Laws
