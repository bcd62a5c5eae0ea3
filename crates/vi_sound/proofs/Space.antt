-- How much there can be of each thing, so that there is room for one more where it comes.
pub mod Pages
pub mod Bounds
pub mod Counts
pub mod Faults
pub mod Maps
pub mod Room
pub mod OpenCalls
pub mod PageRoom
