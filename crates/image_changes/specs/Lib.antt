pub mod Least
pub mod Parts
pub mod Growing
pub mod Walks
pub mod Seen
