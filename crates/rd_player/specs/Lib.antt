pub mod Acts
pub mod Devices
pub mod Played
pub mod Programs
