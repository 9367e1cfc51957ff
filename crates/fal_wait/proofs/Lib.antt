pub mod Bounds
pub mod Firsts
mod Steps
pub mod Ascending
pub mod Numbered
