pub mod AllAnswered
pub mod InRange
pub mod OpeningServed
pub mod Owed
pub mod ScriptLanes
pub mod Serials
pub mod ServedLines
pub mod Wants
