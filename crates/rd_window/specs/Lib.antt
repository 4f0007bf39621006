pub mod Examples
pub mod Layouts
pub mod Remembering
pub mod Views
