pub mod Rests
pub mod Faults
pub mod Arguments
pub mod Fitted
pub mod Branches
