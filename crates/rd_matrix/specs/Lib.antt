pub mod Blocks
pub mod Columns
pub mod Cursors
pub mod Entries
pub mod Held
pub mod Rows
pub mod Sources
