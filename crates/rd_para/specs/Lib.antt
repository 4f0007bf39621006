pub mod Known
pub mod Paragraphs
