pub mod Pairs
pub mod Sides
pub mod Matchings
pub mod Examples
