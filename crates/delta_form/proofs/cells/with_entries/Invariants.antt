use Rattle.std.proofs.Common.{◌≡◌, drop}
use Rattle.delta_form.specs.Applying.{in_turn}
use Rattle.delta_form.specs.After.{put_entry}
use Rattle.delta_form.proofs.cells.with_entries.Given as goal

abbrev pub invariant-loop-place : goal.invariant-loop-place
invariant-loop-place l = in_turn put_entry (drop l.place l.entries) l.all ≡ in_turn put_entry l.entries l.fn.map
