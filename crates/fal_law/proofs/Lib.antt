mod Counts
pub mod Histories
mod Keys
mod Ordered
mod Positions
mod Served
