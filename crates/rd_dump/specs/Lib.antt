pub mod Dumps
pub mod Prints
