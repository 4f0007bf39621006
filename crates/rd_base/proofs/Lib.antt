pub mod Choices
pub mod Colours
pub mod Cutting
pub mod Equals
pub mod Lists
pub mod Rows
mod Small
mod Words
