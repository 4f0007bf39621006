pub mod Characters
mod Coded
pub mod Keeping
mod Moves
mod Openings
mod Paragraphs
pub mod Ranges
pub mod Searches
mod Summaries
