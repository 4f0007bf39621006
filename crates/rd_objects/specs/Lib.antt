pub mod Held
pub mod Sound
pub mod Tables
pub mod Texts
pub mod Things
pub mod Widths
