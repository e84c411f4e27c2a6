use Rattle.std.proofs.Common.{◌≡◌, None, drop}
use Rattle.std.specs.Option.{option_copied}
use Rattle.image_check.specs.Scans.{each}
use Rattle.image_check.proofs.scan.first_in.Given as goal

abbrev pub invariant-loop-place : goal.invariant-loop-place
invariant-loop-place g l = each (g.C.Check.fault l.around) l.place (option_copied l.before) (drop l.place l.items) ≡ each (g.C.Check.fault l.around) 0 None l.items
