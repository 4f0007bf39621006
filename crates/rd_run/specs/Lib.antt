pub mod Alike
pub mod Ends
pub mod Examples
pub mod Given
pub mod Reports
pub mod Runs
pub mod Statuses
pub mod Validity
