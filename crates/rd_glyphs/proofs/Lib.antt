mod Elements
mod Holding
pub mod Joined
pub mod Measures
mod Sums
pub mod Wholeness
