pub mod Entries
pub mod Rule
pub mod Steps
pub mod Sitting
pub mod Moves
pub mod Gathers
