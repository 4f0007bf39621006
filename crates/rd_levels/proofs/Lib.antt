mod Calm
mod FromLeft
mod Lasts
mod Lengths
mod Sequences
pub mod Turns
