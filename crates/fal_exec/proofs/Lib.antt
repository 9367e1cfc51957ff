pub mod InTrees
pub mod Stopped
