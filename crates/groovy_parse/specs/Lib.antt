pub mod Readers
pub mod Refusals
