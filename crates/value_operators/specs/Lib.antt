pub mod Comparing
pub mod Targets
