pub mod Bases
pub mod Rows
pub mod Sources
pub mod Examples
pub mod Kept
pub mod Leads
