pub mod Parsing
pub mod Shallow
