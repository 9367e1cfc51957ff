pub mod Pairs
pub mod Lasting
