pub mod Devices
pub mod Lines
pub mod Pieces
pub mod Files
pub mod Memory
