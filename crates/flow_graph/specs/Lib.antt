pub mod Numbers
pub mod Added
pub mod Refusals
