mod Codes
mod Filling
mod Stops
