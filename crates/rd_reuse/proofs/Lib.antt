pub mod Changes
pub mod Combining
mod Lists
pub mod Places
mod Placing
mod Taking
mod Walking
