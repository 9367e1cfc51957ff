pub mod Names
pub mod News
pub mod Parts
pub mod Paths
pub mod State
pub mod Step
pub mod Patch
