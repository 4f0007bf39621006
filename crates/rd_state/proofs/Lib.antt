mod AllSteps
mod ByName
pub mod ByNumber
mod Contents
mod Edited
mod Faults
mod Finding
pub mod Free
pub mod Keeping
pub mod Leaves
mod Leaving
mod Naming
mod Opening
pub mod Options
mod Outcomes
mod Reaching
mod Sharing
pub mod Showing
mod Slots
mod Small
pub mod StepParts
mod Stepping
mod Tables
pub mod Tests
mod Typing
mod Viewing
pub mod WithParts
mod Within
