-- What a place in a script sees: variables that were declared and binding variables, each with its cell; and what becomes of them
-- where a name is written.
use Rattle.std.specs.Prelude.{◌≡◌, ℕ, List, Result as Outcome, Ok, Err, slice_get}
use Rattle.std.specs.List.{AllByRecursion as AllAre}
use Rattle.model_values.specs.Fitting.{HasVariable}
use Rattle.model_values.specs.declared.cell.Binding.{Binding}
use Rattle.model_values.specs.declared.cell.Cell.{Cell}
use Rattle.model_values.specs.declared.value.Value.{Value}
use Rattle.model_values.specs.declared.value.Value.TheVariants.{Cell as InCell}
use Rattle.model_run.specs.Fitting.{NamesRise}
use Rattle.model_run.specs.Names.{write_name}
use Rattle.model_run.specs.State.{Env, Limited, Result, State, World, with_shared, with_world}
use Rattle.model_run.specs.World.{run_limits}
use Rattle.value_view.specs.declared.refusal.OpRefusal.{OpRefusal}
use Rattle.value_view.specs.declared.refusal.OpRefusal.TheVariants.{Memory, Thrown, Limit}

-- each name is that of a variable, and binding variables stand by rising names
pub record Sees (h : List Cell) (binding : List Binding) (env : Env) : Type 0 where
  pub declared : AllAre (λ b. HasVariable (slice_get h b.cell)) env
  pub bound : AllAre (λ b. HasVariable (slice_get h b.cell)) binding
  pub rising : NamesRise binding

-- a world under this product's limits with these cells and binding variables
pub record Has (h : List Cell) (binding : List Binding) (w : World) : Type 0 where
  pub limits : w.setting.limits ≡ run_limits
  pub cells : w.shared.cells ≡ h
  pub binding_is : w.shared.binding ≡ binding

abbrev pub with_variables : List Cell → List Binding → World → World
with_variables h binding = with_shared (λ u. record u { cells = h; binding = binding })

-- A value was written to a name as the definitions say: in each world with these cells and binding variables, what comes behind it
-- goes on with those afterwards; or a limit was met, and nothing is changed. Nothing is said where the memory was refused.
abbrev pub Written : List ℕ → Env → Value → List Cell → List Binding → Outcome (Unit {0}) OpRefusal → List Cell → List Binding → Type 0
Written x env v h bs (Ok done) h' bs' = (go : State → Result) (s : State) → Has h bs s.world → write_name x env v go s ≡ go (with_world (with_variables h' bs' s.world) s)
Written x env v h bs (Err (Limit k)) h' bs' = ((go : State → Result) (s : State) → Has h bs s.world → write_name x env v go s ≡ Limited k s) × (h' ≡ h) × (bs' ≡ bs)
Written x env v h bs (Err (Thrown c)) h' bs' = ⊥
Written x env v h bs (Err Memory) h' bs' = Unit {0}

-- the cell of a new variable, as the value that the definitions give
abbrev pub cell_given : Outcome ℕ OpRefusal → Outcome Value OpRefusal
cell_given (Ok c) = Ok (InCell c)
cell_given (Err e) = Err e
