pub mod NumberLemmas
pub mod OperandLemmas
pub mod PlaceLemmas
pub mod TargetLemmas
