pub mod Traces
pub mod Parsing
pub mod Rules
pub mod Lawful
pub mod Laws
pub mod Steps
pub mod Texts
