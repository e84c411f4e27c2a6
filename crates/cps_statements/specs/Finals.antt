-- What is kept of an ending while a `finally` runs, and what it was.
use Rattle.std.specs.Prelude.{Bool, true, false, List, [], ◌∷◌}
use Rattle.model_values.specs.declared.value.Value.{Value}
use Rattle.model_values.specs.declared.value.Value.TheVariants.{Null, Cell as InCell}
use Rattle.model_run.specs.Around.{cell_number}
use Rattle.model_run.specs.declared.ending.Ending.{Ending}
use Rattle.model_run.specs.declared.ending.Ending.TheVariants.{Normal, Thrown, Returned, Broke, Continued, Declared, Answered}
use Rattle.model_run.specs.declared.frame.FrameKind.{FrameKind}
use Rattle.model_run.specs.declared.frame.FrameKind.TheVariants as kind

abbrev pub is_final : FrameKind → Bool
is_final kind.FinallyAfterValue = true
is_final kind.FinallyAfterThrow = true
is_final kind.FinallyAfterReturn = true
is_final kind.FinallyAfterBreak = true
is_final kind.FinallyAfterContinue = true
is_final d = false

abbrev pub final_kind : Ending → FrameKind
final_kind (Normal v) = kind.FinallyAfterValue
final_kind (Thrown c) = kind.FinallyAfterThrow
final_kind (Returned v) = kind.FinallyAfterReturn
final_kind Broke = kind.FinallyAfterBreak
final_kind Continued = kind.FinallyAfterContinue
final_kind (Declared b) = kind.FinallyAfterValue
final_kind (Answered x) = kind.FinallyAfterValue

abbrev pub final_values : Ending → List Value
final_values (Normal v) = v ∷ []
final_values (Thrown c) = InCell c ∷ []
final_values (Returned v) = v ∷ []
final_values Broke = []
final_values Continued = []
final_values (Declared b) = Null ∷ []
final_values (Answered x) = Null ∷ []

-- what a frame of `finally` keeps: behind a value or a `return` the value, behind a throw its cell
abbrev pub HasKept : FrameKind → List Value → Type 0
HasKept kind.FinallyAfterValue (v ∷ vs) = Unit {0}
HasKept kind.FinallyAfterThrow (InCell c ∷ vs) = Unit {0}
HasKept kind.FinallyAfterReturn (v ∷ vs) = Unit {0}
HasKept kind.FinallyAfterBreak vs = Unit {0}
HasKept kind.FinallyAfterContinue vs = Unit {0}
HasKept d vs = ⊥

-- the ending of which this was kept
abbrev pub final_before : FrameKind → Value → Ending
final_before kind.FinallyAfterThrow v = Thrown (cell_number v)
final_before kind.FinallyAfterReturn v = Returned v
final_before kind.FinallyAfterBreak v = Broke
final_before kind.FinallyAfterContinue v = Continued
final_before d v = Normal v

-- how a `try` ends behind its `finally`
abbrev pub over_final : Ending → Ending → Ending
over_final before (Normal v) = before
over_final before (Thrown c) = Thrown c
over_final before (Returned v) = Returned v
over_final before Broke = Broke
over_final before Continued = Continued
over_final before (Declared b) = before
over_final before (Answered x) = before
