pub mod Laws
pub mod Plans
pub mod Updates
pub mod Words
