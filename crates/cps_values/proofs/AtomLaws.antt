-- Names.
use Rattle.std.proofs.Common.{◌≡◌, ◌<◌, ℕ, true, List, [], ◌∷◌, length, refl}
use Rattle.std.specs.Prelude.{All, slice_get}
use Rattle.std.specs.List.{AllByRecursion as AllAre}
use Rattle.std.proofs.lemmas.List.Elements.{All-from_recursion}
use Rattle.model_syntax.specs.declared.node.NodeForm.{NodeForm}
use Rattle.model_syntax.specs.declared.node.NodeForm.TheVariants as form
use Rattle.model_values.specs.Fitting.{HasVariable}
use Rattle.model_values.specs.declared.cell.Cell.{Cell}
use Rattle.model_run.specs.State.{Env}
use Rattle.cps_variables.proofs.SightLaws.{variable_within}
use Rattle.cps_values.specs.Forms.{is_variable}

pub variable_of : (f : NodeForm) → is_variable f ≡ true → (x : List ℕ) × (f ≡ form.Variable x)
variable_of (form.Variable x) e = (x, refl)
variable_of f e = absurd (cc e)

within : (h : List Cell) (env : Env) → AllAre (λ b. HasVariable (slice_get h b.cell)) env → AllAre (λ b. b.cell < length h) env
within h [] a = tt
within h (b ∷ env) a = (variable_within h b.cell a.0, within h env a.1)

-- the variables of a closure are among the cells
pub env_within : (h : List Cell) (env : Env) → AllAre (λ b. HasVariable (slice_get h b.cell)) env → All (λ b. b.cell < length h) env
env_within h env a = All-from_recursion (λ b. b.cell < length h) env (within h env a)
