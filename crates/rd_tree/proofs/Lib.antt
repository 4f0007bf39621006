mod Answering
pub mod Composing
pub mod Free
pub mod Keeping
pub mod Listing
pub mod Rooms
mod Siblings
pub mod Standing
pub mod Steps
pub mod Validity
