pub mod Chosen
pub mod Examples
pub mod Near
pub mod Starts
pub mod Strips
