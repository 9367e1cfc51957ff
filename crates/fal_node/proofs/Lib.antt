mod Pushed
mod Shutting
mod Runs
mod Steps
mod Sound
mod Counters
mod Drafts
pub mod Reading
mod Opens
mod Gathered
mod Dues
