mod Colon
pub mod FirstLine
pub mod GoodPaths
pub mod InRange
pub mod Lanes
mod Ranges
mod Pieces
mod Printable
mod ReadBack
mod Results
mod Rows
mod Unescaped
