pub mod Answers
pub mod Headline
pub mod Reading
pub mod Recorded
pub mod Serial
pub mod Serving
