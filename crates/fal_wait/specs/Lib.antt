pub mod Doings
pub mod Lists
pub mod Waiting
