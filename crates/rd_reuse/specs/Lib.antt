pub mod Changes
pub mod Examples
pub mod Keeping
pub mod Laying
pub mod Views
