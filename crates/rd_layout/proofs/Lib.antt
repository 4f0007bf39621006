pub mod ByNumber
mod Calm
mod Chosen
mod Copying
mod Determined
mod Fitting
mod Keeping
pub mod Known
mod Leading
mod Numbering
mod Over
pub mod Placed
mod Placing
mod Positions
pub mod Sending
mod Settling
mod Soundness
mod Spotting
pub mod Standing
