mod CellExamples
pub mod CellGrowth
mod EqualityExamples
pub mod Growth
mod IndexExamples
pub mod IndexGrowth
pub mod KindFacts
pub mod LaterLaws
mod ListMethodExamples
pub mod ListMethodGrowth
mod MethodExamples
pub mod MethodGrowth
mod MethodNameExamples
pub mod KeyOrderLaws
mod OperatorExamples
pub mod OperatorGrowth
mod Sample
pub mod TableLaws
mod TextExamples
mod TextMethodExamples
pub mod TextMethodGrowth
pub mod ThrowGrowth
mod ThrowableExamples
mod TruthExamples
mod WalkExamples
pub mod WalkGrowth
