pub mod GrantLaws
mod LogExamples
mod LabelExamples
mod RunExamples
mod RowExamples
mod FitExamples
mod AgentsExamples
pub mod Front
pub mod AmongLaws
pub mod Asking
pub mod Relation
pub mod Room
pub mod Under
pub mod StatementLaws
pub mod ExpressionLaws
pub mod StepLaws
pub mod CallLaws
pub mod FormLaws
pub mod BelowLaws
pub mod Walk
pub mod Monotone
pub mod Found
pub mod Replay
pub mod Enough
pub mod Structure
pub mod OperationLaws
pub mod OwnLaws
pub mod PathLaws
pub mod WaitingLaws
pub mod LaterLaws
pub mod SinceLaws
pub mod WorldLaws
pub mod RequestLaws
pub mod LaterWorlds
pub mod RequestWorlds
pub mod DueLaws
mod FirstFits
