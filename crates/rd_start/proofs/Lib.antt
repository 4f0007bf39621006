pub mod Lists
mod Scrolling
mod Sides
mod Small
mod Spans
mod Suits
mod Tests
mod Around
pub mod Blocks
mod Rows
mod Choosing
mod Costs
mod Growth
pub mod Inside
mod Moving
pub mod NearRows
mod Places
pub mod Positions
mod Pushing
mod Reaching
