mod OnePass
pub mod Writing
