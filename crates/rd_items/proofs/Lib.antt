mod Alike
mod Chains
pub mod EachItem
pub mod Ended
pub mod Growing
mod Listing
mod Measured
pub mod Naming
mod Newlines
mod Reach
pub mod Readings
mod Runs
mod Steps
mod Tiling
