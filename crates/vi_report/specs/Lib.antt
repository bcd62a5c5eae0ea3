pub mod Texts
pub mod Types
pub mod Lines
pub mod Reading
pub mod Parsing
pub mod Laws
