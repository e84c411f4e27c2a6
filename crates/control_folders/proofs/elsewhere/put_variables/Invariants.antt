use Rattle.std.proofs.Common.{◌≡◌, ◌++◌, drop}
use Rattle.std.specs.List.{flat_map}
use Rattle.control_folders.specs.TaskScript.{exports}
use Rattle.control_folders.proofs.elsewhere.put_variables.Given as goal

abbrev pub invariant-loop-variable : goal.invariant-loop-variable
invariant-loop-variable l = l.text ++ flat_map exports (drop l.variable-index l.variables) ≡ l.initial.text ++ flat_map exports l.variables
