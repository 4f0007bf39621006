pub mod Implicit
pub mod Neutral
pub mod Places
pub mod Walks
pub mod Weak
