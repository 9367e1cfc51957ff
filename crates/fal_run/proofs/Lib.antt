pub mod Changes
mod Found
mod Numbers
mod Runs
pub mod Within
