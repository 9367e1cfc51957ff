pub mod Seen
pub mod TreeWalk
pub mod Walk
