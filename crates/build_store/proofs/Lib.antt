pub mod Lower
pub mod SavedLemmas
pub mod LifeLemmas
pub mod BeginLemmas
