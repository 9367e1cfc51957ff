pub mod Posts
pub mod Whole
