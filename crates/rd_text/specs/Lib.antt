pub mod Answers
pub mod Gaps
pub mod Pieces
pub mod Stretches
pub mod Texts
