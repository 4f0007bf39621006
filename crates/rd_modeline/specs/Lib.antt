pub mod Values
pub mod Formats
pub mod Lines
