use Rattle.model_run.specs.Terms.{parts_of}
use Rattle.cps_code.specs.Functions.{HasFunctions}
use Rattle.cps_code.specs.Script.{script_of}
use Rattle.cps_code.proofs.FunctionLaws.{terms_behind}
use Rattle.cps_code.proofs.functions.functions_of.Given as goal

abbrev pub invariant-loop-at : goal.invariant-loop-at
invariant-loop-at l = HasFunctions (terms_behind l.at (parts_of (script_of l.rows))) l.functions
