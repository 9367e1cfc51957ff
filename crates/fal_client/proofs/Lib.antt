mod Sent
mod Moves
mod Ranges
mod Sorting
pub mod Reading
