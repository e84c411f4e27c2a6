pub mod Stances
pub mod Standing
