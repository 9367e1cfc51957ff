pub mod Queues
pub mod NodeRows
pub mod Turns
pub mod Whole
pub mod Opening
pub mod Shown
pub mod Extends
pub mod Merged
