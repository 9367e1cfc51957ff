pub mod Carried
pub mod Firsts
pub mod Rising
mod Rows
pub mod Tables
pub mod Within
