pub mod Answers
pub mod Due
pub mod Faults
pub mod Laws
pub mod Verdicts
pub mod Seen
pub mod Texts
