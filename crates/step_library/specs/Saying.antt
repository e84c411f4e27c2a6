-- Lines, one behind the other, of which a later one may meet the limit of the log.
use Rattle.std.specs.Prelude.{◌≡◌, ℕ, List, Result as Outcome, Ok, Err}
use Rattle.model_values.specs.declared.limit.LimitKind.{LimitKind}
use Rattle.model_run.specs.State.{World, Reply, State, Result, Limited, with_shared}
use Rattle.cps_frames.specs.Standing.{Standing, state}
use Rattle.cps_frames.specs.Changes.{changed_by}
use Rattle.cps_frames.specs.declared.halt.Halt.{Halt}
use Rattle.cps_frames.specs.declared.halt.Halt.TheVariants.{Memory, Ends, Limit}

-- the log becomes this one
abbrev pub with_log : List ℕ → World → World
with_log log = with_shared (λ u. record u { log = log })

-- the log alone has changed
pub record LogsOnly (u v : Standing) : Type 0 where
  pub made : v.world ≡ changed_by (with_log v.world.shared.log) u.world
  pub stack : v.stack ≡ u.stack
  pub parent : v.parent ≡ u.parent
  pub heap : v.heap ≡ u.heap

-- all was logged, and what follows goes on from there
pub record Logged (m : (State → Result) → State → Result) (u v : Standing) : Type 0 where
  pub is : (go : State → Result) (rs : List Reply) → m go (state u.world rs) ≡ go (state v.world rs)
  pub only : LogsOnly u v

-- a limit was met
pub record LogFull (m : (State → Result) → State → Result) (k : LimitKind) (u v : Standing) : Type 0 where
  pub is : (go : State → Result) (rs : List Reply) → m go (state u.world rs) ≡ Limited k (state v.world rs)
  pub only : LogsOnly u v

abbrev pub Logs : ((State → Result) → State → Result) → Standing → Outcome (Unit {0}) Halt → Standing → Type 0
Logs m u (Ok done) v = Logged m u v
Logs m u (Err (Limit k)) v = LogFull m k u v
Logs m u (Err (Ends e)) v = ⊥
Logs m u (Err Memory) v = Unit {0}
