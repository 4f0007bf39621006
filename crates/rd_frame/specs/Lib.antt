pub mod Panes
pub mod Frames
pub mod Fits
pub mod Paints
pub mod OneByOne
pub mod Held
pub mod Examples
