pub mod Tracked
pub mod Followed
pub mod Rounds
pub mod Marks
pub mod Led
