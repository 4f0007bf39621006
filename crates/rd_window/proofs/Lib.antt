mod Near
pub mod Starting
mod Points
mod Ends
pub mod Standing
mod Remembering
