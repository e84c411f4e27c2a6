pub mod Bounds
pub mod Soundness
pub mod Evaluation
pub mod Worlds
