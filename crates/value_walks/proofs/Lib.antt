pub mod KeptLemmas
pub mod LoopLemmas
pub mod PlaceLemmas
pub mod TailLemmas
pub mod TurnLemmas
pub mod WalkLemmas
