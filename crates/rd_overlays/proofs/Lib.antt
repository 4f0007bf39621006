pub mod Alike
pub mod Bounding
pub mod Exact
mod Greatest
mod Lasts
pub mod Listed
mod Nearest
mod Passing
mod Skipping
pub mod Slots
mod Sorting
