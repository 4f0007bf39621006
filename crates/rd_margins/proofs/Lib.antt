mod Finite
mod Whole
