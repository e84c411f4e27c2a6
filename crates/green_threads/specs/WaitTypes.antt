-- The names by which the definitions call waits, answers, ends and limits.
pub use Rattle.model_values.specs.declared.limit.LimitKind.{LimitKind}
pub use Rattle.model_values.specs.declared.limit.LimitKind.TheVariants.{GreenThreads}
pub use Rattle.model_values.specs.declared.value.Outcome.{Outcome}
pub use Rattle.model_run.specs.declared.wait.JoinEnd.{JoinEnd}
pub use Rattle.model_run.specs.declared.wait.BranchEnd.{BranchEnd}
pub use Rattle.model_run.specs.declared.wait.Join.{Join}
pub use Rattle.model_run.specs.declared.wait.Answer.{Answer}
pub use Rattle.model_run.specs.declared.wait.Answer.TheVariants.{Begin, Joined}
pub use Rattle.model_run.specs.declared.wait.Wait.{Wait}
pub use Rattle.model_run.specs.declared.wait.Wait.TheVariants.{Ready, Request as RequestWait, Branches as BranchesWait}
