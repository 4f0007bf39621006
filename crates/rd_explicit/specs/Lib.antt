pub mod Explicit
pub mod Follow
pub mod Isolates
pub mod Links
pub mod Sequences
