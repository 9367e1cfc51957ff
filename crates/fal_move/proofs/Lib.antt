mod Ordering
mod Shares
