use Rattle.std.proofs.Common.{◌≡◌, ◌<◌, ◌-◌, ℕ, Some, length}
use Rattle.model_run.specs.Terms.{nodes_of}
use Rattle.cps_code.specs.Script.{script_of}
use Rattle.frame_rows.specs.Leading.{LeadsTo, passed}
use Rattle.frame_rows.proofs.leading.+leads.Given as goal

abbrev pub decreases-leads : goal.decreases-leads
decreases-leads l = length (nodes_of (script_of l.code.now)) - l.node

abbrev pub invariant-loop-at : goal.invariant-loop-at
invariant-loop-at l = (i n : ℕ) → i < l.at → passed (script_of l.fn.code) l.fn.node i ≡ Some n → LeadsTo (script_of l.fn.code) l.fn.wanted n → ⊥
