pub mod Faults
pub mod Kinds
pub mod Refusal
pub mod Walk
