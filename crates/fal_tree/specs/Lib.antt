pub mod Applied
pub mod Found
pub mod Refused
pub mod Walks
