pub mod Yields
pub mod Suffixes
