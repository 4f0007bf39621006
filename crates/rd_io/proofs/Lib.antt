pub mod Cuts
pub mod Bytes
mod Gathering
mod Memory
