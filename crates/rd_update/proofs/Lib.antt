pub mod Comparing
pub mod Dressing
mod Feeding
mod Intervals
pub mod Parts
mod Reaching
mod Rows
pub mod Sequences
mod Showing
pub mod Sizes
pub mod Soundness
pub mod Spans
mod Telling
mod Texts
