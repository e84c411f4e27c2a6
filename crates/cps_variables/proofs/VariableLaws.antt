-- Variables that are made, read and written, in the words of the machine.
use Rattle.std.proofs.Common.{◌≡◌, ◌∙◌, ◌<◌, ℕ, List, Option, Some, refl, sym, ap, ap₂}
use Rattle.std.specs.Prelude.{Result as Outcome, Ok, Err, slice_get, slice_set}
use Rattle.model_values.specs.Cells.{new_cell, variable_set}
use Rattle.model_values.specs.Fitting.{HasVariable}
use Rattle.model_values.specs.declared.cell.Cell.{Cell}
use Rattle.model_values.specs.declared.cell.Cell.TheVariants.{Variable}
use Rattle.model_values.specs.declared.value.Value.{Value}
use Rattle.model_values.specs.declared.value.Value.TheVariants.{Cell as InCell}
use Rattle.model_run.specs.Around.{Around, Shape, cell_number, cells, limits}
use Rattle.model_run.specs.Names.{first_of, look, new_variable, write_cell, write_name}
use Rattle.model_run.specs.State.{Env, State, Result, with_world}
use Rattle.model_values.specs.declared.cell.Binding.{Binding}
use Rattle.cps_variables.specs.Sight.{Has, Sees, with_variables}
use Rattle.cps_variables.proofs.SightLaws.{seen_variable}
use Rattle.value_view.specs.declared.refusal.OpRefusal.{OpRefusal}
use Rattle.cps_frames.specs.Changes.{Done}
use Rattle.cps_frames.specs.Halts.{halt_of}
use Rattle.cps_frames.specs.Moves.{ComesTo}
use Rattle.cps_frames.specs.Standing.{Standing}
use Rattle.cps_frames.specs.declared.halt.Halt.{Halt}
use Rattle.cps_frames.specs.declared.thread.Move.{Move}
use Rattle.cps_frames.proofs.MoveLaws.{to_given, to_thrown}

-- behind a new variable, and where it was refused
pub to_new : (k r : ℕ) (value : Value) (go : ℕ → Shape → Around → State → Result) (c : ℕ) (u u' : Standing) (result : Outcome Move Halt) (v : Standing) → Done (λ w. new_cell (limits w) (cells w) (Variable value)) u (Ok (InCell c)) u' → ComesTo k r (go c) u' result v → ComesTo k r (λ sh a. new_variable value (λ n. go n sh a)) u result v
to_new k r value go c u u' result v d =
    to_given k r (λ w. new_cell (limits w) (cells w) (Variable value)) (λ y sh a. go (cell_number y) sh a) (InCell c) u u' result v d

pub to_not_new : (k r : ℕ) (value : Value) (go : ℕ → Shape → Around → State → Result) (o : OpRefusal) (u v : Standing) → Done (λ w. new_cell (limits w) (cells w) (Variable value)) u (Err o) v → 0 < r → ComesTo k r (λ sh a. new_variable value (λ n. go n sh a)) u (Err (halt_of o)) v
to_not_new k r value go o u v d pos = to_thrown k r (λ w. new_cell (limits w) (cells w) (Variable value)) (λ y sh a. go (cell_number y) sh a) o u v d pos

-- a variable that is written
pub written : (h : List Cell) (c : ℕ) (v : Value) (o : Option Cell) → HasVariable o → variable_set o h c v ≡ slice_set h c (Variable v)
written h c v (Some (Variable old)) has = refl
written h c v o has = absurd has

-- a name that means a variable which is there
pub written_over : (x : List ℕ) (env : Env) (v : Value) (h h' : List Cell) (bs : List Binding) (c : ℕ) → Sees h bs env → first_of (look x env) (look x bs) ≡ Some c → h' ≡ slice_set h c (Variable v)
    → (go : State → Result) (s : State) → Has h bs s.world → write_name x env v go s ≡ go (with_world (with_variables h' bs s.world) s)
written_over x env v h h' bs c sees found new go s has =
    ap (λ o. write_cell x v go o s) (ap (λ b. first_of (look x env) (look x b)) has.binding_is ∙ found)
    ∙ ap₂ (λ cs b. go (with_world (with_variables cs b s.world) s)) (ap (λ cs. variable_set (slice_get cs c) cs c v) has.cells ∙ written h c v (slice_get h c) (seen_variable h bs env x c sees found) ∙ sym new) has.binding_is
