mod Cuts
mod Large
mod Ranges
