pub mod CallLemmas
pub mod KeyLemmas
pub mod ListLemmas
pub mod MapLemmas
