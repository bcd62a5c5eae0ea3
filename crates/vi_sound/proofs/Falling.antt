-- The bound that falls with each move, and why a world in which nothing moves is finished.
pub mod Ended
pub mod Costs
pub mod Falls
pub mod Served
pub mod BackMoves
pub mod DriverMoves
pub mod DeviceMoves
pub mod Lowers
pub mod Stills
pub mod Quiet
pub mod Progress
pub mod Rounds
pub mod Finishes
pub mod Tested
