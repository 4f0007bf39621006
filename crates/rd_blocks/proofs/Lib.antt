mod Gives
pub mod Within
mod Ranges
mod LastRows
mod Enders
mod Bases
mod Quiet
mod Sources
mod Steps
pub mod Listed
mod Prefixes
mod Made
mod Local
pub mod SameReading
mod EntryBlocks
mod KeptRows
pub mod Leading
mod Marks
mod WholeRows
