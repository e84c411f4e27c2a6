pub mod Kinds
pub mod Targets
