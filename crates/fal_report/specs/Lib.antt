pub mod Calls
pub mod Counts
pub mod Entries
pub mod Escapes
pub mod Inodes
pub mod Rows
pub mod Transcripts
