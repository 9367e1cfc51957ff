mod Dropped
pub mod LastKey
pub mod LastName
mod OnTree
mod Steps
pub mod TreeSteps
pub mod UnderWay
pub mod WalkKeys
