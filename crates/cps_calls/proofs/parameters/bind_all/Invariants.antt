use Rattle.std.proofs.Common.{◌≡◌, ◌+◌, drop}
use Rattle.model_run.specs.Names.{bind_all}
use Rattle.cps_calls.proofs.parameters.bind_all.Given as goal

abbrev pub invariant-loop-at : goal.invariant-loop-at
invariant-loop-at l = bind_all (drop l.at l.names) (l.first + l.at) l.bound ≡ bind_all l.names l.first l.fn.env
