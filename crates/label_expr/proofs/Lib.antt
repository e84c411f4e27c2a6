pub mod ConditionLaws
pub mod TokenLaws
pub mod GrammarLaws
pub mod WholeLaws
pub mod LabelLaws
pub mod FirstBadLaws
