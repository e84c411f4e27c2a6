use Rattle.std.proofs.Common.{◌≡◌, length, map}
use Rattle.model_run.specs.Fitting.{Rises}
use Rattle.image_check.specs.Requests.{numbered}
use Rattle.image_check.proofs.lookup.numbered_by_halves.Given as goal

abbrev pub invariant-loop-rest : goal.invariant-loop-rest
invariant-loop-rest g l = Rises (map g.T.HasNumber.number l.rest) × (numbered g.T.HasNumber.number l.number l.rest ≡ numbered g.T.HasNumber.number l.number l.items)

abbrev pub decreases-loop-rest : goal.decreases-loop-rest
decreases-loop-rest g l = length l.rest
