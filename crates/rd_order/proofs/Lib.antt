mod Places
pub mod Reversals
mod Steps
pub mod Once
