pub mod Strings
pub mod Shown
pub mod Lines
pub mod Limits
pub mod Steps
pub mod Walks
pub mod Examples
pub mod Orders
