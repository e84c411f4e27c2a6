use Rattle.std.proofs.Common.{◌≡◌, ◌≤◌, ◌-◌, List}
use Rattle.model_values.specs.declared.value.Value.{Value}
use Rattle.model_run.specs.Around.{Around, arity}
use Rattle.model_run.specs.FrameTable.{count_of}
use Rattle.model_run.specs.Gathering.{gather}
use Rattle.model_run.specs.Nesting.{shape_at}
use Rattle.model_run.specs.State.{Env, Result, State}
use Rattle.cps_code.specs.Script.{script_of}
use Rattle.cps_expressions.proofs.gathering.behind_plain.Given as goal

abbrev pub invariant-loop-left : goal.invariant-loop-left
invariant-loop-left l = record {
  less : l.left ≤ l.fn.left;
  same : (a : Around) (env : Env) (finish : List Value → State → Result) (kept : List Value) → gather a l.fn.node (shape_at (script_of l.fn.code) l.fn.node) env finish l.fn.left kept ≡ gather a l.fn.node (shape_at (script_of l.fn.code) l.fn.node) env finish l.left kept;
  count : (env : Env) → count_of (shape_at (script_of l.fn.code) l.fn.node) env (arity (shape_at (script_of l.fn.code) l.fn.node) - l.fn.left) ≡ count_of (shape_at (script_of l.fn.code) l.fn.node) env (arity (shape_at (script_of l.fn.code) l.fn.node) - l.left);
}

abbrev pub decreases-loop-left : goal.decreases-loop-left
decreases-loop-left l = l.left
