pub mod Letters
pub mod Rows
pub mod Calls
pub mod Work
