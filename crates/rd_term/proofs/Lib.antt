pub mod Cutting
pub mod Encoded
mod Erasing
pub mod Measured
mod Putting
pub mod Shapes
pub mod Walks
