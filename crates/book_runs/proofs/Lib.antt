pub mod Clients
pub mod Coords
pub mod Kept
pub mod Nodes
pub mod Opened
