use Rattle.std.proofs.Common.{◌≡◌, drop}
use Rattle.model_run.specs.Nesting.{shape_at}
use Rattle.model_run.specs.Statements.{catch_among}
use Rattle.cps_code.specs.Script.{script_of}
use Rattle.cps_statements.proofs.attempts.catch_among.Given as goal

abbrev pub invariant-loop-at : goal.invariant-loop-at
invariant-loop-at l = catch_among l.class l.at (drop l.at (shape_at (script_of l.code) l.node).parts) ≡ catch_among l.class 0 (shape_at (script_of l.code) l.node).parts
