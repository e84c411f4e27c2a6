pub mod Answers
pub mod Depth
pub mod Refusals
pub mod Seen
