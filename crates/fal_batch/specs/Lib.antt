pub mod Fate
pub mod Idle
pub mod Keys
pub mod Plan
pub mod Seen
