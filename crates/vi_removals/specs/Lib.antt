pub mod Value
pub mod Takings
pub mod Inner
