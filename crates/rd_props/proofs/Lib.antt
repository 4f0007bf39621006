mod Alike
mod Edges
mod Changes
mod Colours
mod Few
mod Newness
mod Joining
mod Moves
mod Texts
pub mod Editing
mod Between
pub mod Replacing
pub mod Names
mod Sees
