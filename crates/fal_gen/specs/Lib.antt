pub mod Calls
pub mod Lines
pub mod Picks
pub mod Source
