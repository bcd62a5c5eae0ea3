mod Answering
mod Awaited
mod Effects
mod Reaching
mod StartKept
mod StartRooms
mod StartTurns
mod Telling
mod Ties
pub mod Finding
pub mod Working
pub mod Cutting
pub mod Reasons
pub mod Linking
pub mod Missing
pub mod Touching
pub mod Acking
pub mod Acked
pub mod Serving
mod Found
mod OpenCalls
mod Setups
pub mod Sound
mod Firsts
mod Planned
mod Queues
