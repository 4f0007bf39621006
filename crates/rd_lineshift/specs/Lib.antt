pub mod Choices
pub mod Laws
pub mod Numbers
pub mod Plans
pub mod Shifts
