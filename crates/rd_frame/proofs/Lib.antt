mod Filling
mod Painting
pub mod Screens
mod OneByOne
mod Whole
