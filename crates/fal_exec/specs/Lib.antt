pub mod Executed
pub mod Outcome
pub mod RowCall
