pub mod Histories
pub mod Threads
pub mod Running
