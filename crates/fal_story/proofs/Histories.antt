pub mod Arrivals
pub mod Books
pub mod Deeds
pub mod Numbers
pub mod Orders
pub mod Pushed
pub mod Replays
pub mod RunLaws
