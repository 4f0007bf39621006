pub mod Bounds
pub mod Listings
pub mod Moves
pub mod Overlays
pub mod Values
