-- A thread of a world stands soundly (this product's own): what it runs, what it is about to be given and what its frames keep name what
-- is there, and its frames have the variables that the script has there.
use Rattle.std.specs.Prelude.{ℕ, Bool, false, List, length, Option, Some, None, slice_get}
use Rattle.std.specs.List.{AllByRecursion as AllAre}
use Rattle.model_syntax.specs.declared.node.NodeForm.TheVariants as form
use Rattle.model_values.specs.Fitting.{HasVariable, CellsFit}
use Rattle.model_run.specs.declared.wait.Wait.{Wait}
use Rattle.model_run.specs.declared.wait.Wait.TheVariants.{Ready, Request as RequestWait, Branches as BranchesWait}
use Rattle.model_run.specs.declared.wait.JoinEnd.{JoinEnd}
use Rattle.model_run.specs.declared.ending.Asked.{Asked}
use Rattle.model_run.specs.declared.frame.Frame.{Frame}
use Rattle.model_run.specs.declared.held.Held.{Held}
use Rattle.model_run.specs.State.{Setting, Common, Own, State, Result, Ended, Waits, Limited, Unfinished}
use Rattle.model_run.specs.Threads.{Thread, stands}
use Rattle.model_run.specs.Fitting.{closure_rule, IsFlowNode, EndFits as BranchEnded, Later}
use Rattle.run_laws.specs.Bounds.{Narrow, InBounds}
use Rattle.run_laws.specs.Soundness.{Open, Holds}
use Rattle.run_laws.specs.Evaluation.{AnswerThere, RunsFit, AllOfSite, turn_open, based}

-- The shared state of a build that has ended or not is sound: cells and binding variables name what is there, each held executor is one
-- of the site's, and what is counted stays in its bounds.
pub record SharedSound (g : Setting) (ended : Bool) (u : Common) : Type 0 where
  pub narrow : Narrow g.limits
  pub cells : CellsFit (closure_rule g.script) u.cells
  pub binding : AllAre (λ b. HasVariable (slice_get u.cells b.cell)) u.binding
  pub held : AllOfSite g.site u.held
  pub bounds : InBounds ended g.site u

-- a branch that has ended: its last flow node and what it ended with are there
abbrev pub EndIf : Common → Option JoinEnd → Type 0
EndIf u None = Unit {0}
EndIf u (Some e) = BranchEnded u e

-- what a thread is about to be given, or has of its branches, is there
abbrev pub WaitThere : Common → Wait → Type 0
WaitThere u (Ready x) = AnswerThere u x
WaitThere u (RequestWait r) = Unit {0}
WaitThere u (BranchesWait js) = AllAre (λ j. EndIf u j.ended) js

-- what was open around a thread as it began
abbrev pub begun_open : Own → List Held → List ℕ → Open
begun_open own was gone = turn_open own.context.held (length own.context.folders) was gone

-- A thread that waits does so soundly since its last turn began, inside frames that fit, from a state before this one.
pub record StoodSound (g : Setting) (own : Own) (u : Common) (asked : Asked) (path : List Frame) (s : State) : Type 0 where
  pub from : Common
  pub was : List Held
  pub gone : List ℕ
  pub waits : Holds (based g (begun_open own was gone)) form.Block from (Waits asked path s)
  pub later : Later s.world.shared u

abbrev pub StandsSound : Setting → Own → Common → Result → Type 0
StandsSound g own u (Waits asked path s) = StoodSound g own u asked path s
StandsSound g own u (Ended e s) = Unit {0}
StandsSound g own u (Limited k s) = Unit {0}
StandsSound g own u Unfinished = Unit {0}

-- where it began and its last flow node are the build's
pub record SoundThread (g : Setting) (u : Common) (t : Thread) : Type 0 where
  pub shared : SharedSound g false u
  pub runs : RunsFit g.script u t.runs
  pub head : IsFlowNode u.nodes t.own.head
  pub last : IsFlowNode u.nodes t.head
  pub wait : WaitThere u t.wait
  pub stood : StandsSound g t.own u (stands g t)
