pub mod Catches
pub mod Finals
pub mod Kinds
pub mod Turns
