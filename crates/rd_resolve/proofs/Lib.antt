pub mod Places
mod Raising
mod Resetting
mod WeakSteps
