pub mod SoFar
pub mod Filled
