pub mod Ascending
mod Leaving
