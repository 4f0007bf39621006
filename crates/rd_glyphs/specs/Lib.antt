pub mod Characters
pub mod MarkRoles
pub mod Marks
pub mod Lines
pub mod Looks
pub mod Held
