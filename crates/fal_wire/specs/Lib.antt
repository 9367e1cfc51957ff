pub mod Format
pub mod Gives
pub mod Letters
pub mod Messages
pub mod Names
pub mod Numbers
pub mod Ops
pub mod Rows
