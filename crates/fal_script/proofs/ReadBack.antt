-- What is printed is read back.
pub mod Calls
pub mod Escapes
pub mod Numbers
pub mod Paths
pub mod Script
pub mod Words
