pub mod CallLemmas
pub mod ListLemmas
pub mod MethodLemmas
pub mod NumberLemmas
pub mod PartLemmas
pub mod SearchLemmas
