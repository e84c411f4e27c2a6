pub mod RowLaws
pub mod TestLaws
pub mod BlockLaws
pub mod WayLaws
pub mod EachLaws
pub mod TryLaws
pub mod FinalLaws
pub mod ThrowLaws
