-- The branches of a `parallel` as they begin.
use Rattle.std.specs.Prelude.{◌≡◌, ◌≤◌, ◌+◌, ◌^◌, ℕ, List, [], length, Result, Ok, Err}
use Rattle.cell_heap.specs.Soundness.{ValueBelow}
use Rattle.model_values.specs.declared.value.Outcome.{Outcome}
use Rattle.model_values.specs.declared.value.Outcome.TheVariants.{Value as ValueOutcome, Thrown as ThrownOutcome}
use Rattle.model_run.specs.declared.callee.Callee.{Callee}
use Rattle.model_run.specs.declared.ending.Branch.{Branch}
use Rattle.model_run.specs.State.{Reply, Env}
use Rattle.model_run.specs.Steps.{begin_branches, fork_or_none}
use Rattle.cps_frames.specs.Standing.{Beside, Standing, room_of, state}
use Rattle.cps_frames.specs.Moves.{ComesTo}
use Rattle.cps_frames.specs.declared.halt.Halt.{Halt}

-- All have their flow nodes, which are paid for; what follows goes on from there, in the same thread.
pub record Begun (k : ℕ) (env : Env) (start : ℕ) (named : List (List ℕ × Callee)) (bs : List Branch) (u v : Standing) : Type 0 where
  pub is : (rs : List Reply) → begin_branches k env start [] named (state u.world rs) ≡ fork_or_none k env start bs (state v.world rs)
  pub setting : v.world.setting ≡ u.world.setting
  pub own : v.world.own ≡ u.world.own
  pub stack : v.stack ≡ u.stack
  pub beside : Beside u v
  pub less : room_of v.world + length bs ≤ room_of u.world

abbrev pub Begins : ℕ → Env → ℕ → List (List ℕ × Callee) → Standing → Result (List Branch) Halt → Standing → Type 0
Begins k env start named u (Ok bs) v = Begun k env start named bs u v
Begins k env start named u (Err h) v = ComesTo k (2 ^ 66) (λ sh a. begin_branches k env start [] named) u (Err h) v

-- what a branch gives is there
abbrev pub OutcomeBelow : ℕ → Outcome → Type 0
OutcomeBelow n (ValueOutcome v) = ValueBelow n v
OutcomeBelow n (ThrownOutcome c) = Unit {0}
