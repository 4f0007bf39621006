mod All
mod Colours
mod Ends
mod Few
mod Fill
mod Fitting
mod LineLaws
mod Made
pub mod Marks
pub mod Mirroring
mod Placings
pub mod SameShapes
pub mod Splits
mod Stands
mod Waiting
mod Walk
mod Wholeness
