pub mod Records
pub mod State
pub mod Moments
pub mod Answers
pub mod Finding
