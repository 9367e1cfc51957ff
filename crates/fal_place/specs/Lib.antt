pub mod Hash
pub mod Placement
pub mod Starts
