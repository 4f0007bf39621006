mod Alike
mod Fed
pub mod Begun
pub mod Effects
pub mod Free
mod FreeFiles
mod FreeSteps
mod Headline
pub mod Inputs
mod Leading
mod Lines
pub mod OnRuns
mod Ops
mod Scripts
mod Starved
pub mod Validity
mod Whole
