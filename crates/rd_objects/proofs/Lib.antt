pub mod Entries
pub mod Soundness
pub mod Widths
