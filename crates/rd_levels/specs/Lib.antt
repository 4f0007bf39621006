pub mod Examples
pub mod Levels
pub mod Turns
