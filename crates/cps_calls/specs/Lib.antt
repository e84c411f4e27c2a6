pub mod Calls
pub mod Kinds
pub mod Meanings
pub mod Turns
pub mod Walking
