pub mod CharacterLemmas
pub mod DepthLemmas
pub mod PartLemmas
pub mod TextLemmas
