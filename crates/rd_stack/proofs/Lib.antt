mod Lists
mod Rows
mod Walks
mod Strings
mod Elements
mod Prefixes
pub mod LineEnds
mod Joined
mod Good
mod Parts
pub mod EachPart
pub mod EachElement
mod Holds
mod Sound
mod Codes
mod ReadFew
mod Coloured
mod Ends
pub mod Stays
