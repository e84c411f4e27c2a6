pub mod PartLaws
pub mod FrameLaws
pub mod YieldLaws
pub mod OperandLaws
pub mod SignLaws
pub mod FormLaws
pub mod GrammarLaws
pub mod SuffixLaws
