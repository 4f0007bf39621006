pub mod Calls
pub mod Codes
pub mod Compositions
pub mod Held
pub mod Places
pub mod Shapes
pub mod Windows
