pub mod FirstWrong
pub mod LeastFault
pub mod MarkOrder
pub mod NameLemmas
pub mod TokenPlaces
pub mod WalkLaws
