pub mod Examples
pub mod Hits
pub mod Motion
pub mod Order
pub mod Tiles
pub mod Ways
