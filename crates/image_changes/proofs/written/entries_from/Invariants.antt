use Rattle.std.proofs.Common.{◌≡◌, ◌++◌, drop}
use Rattle.image_changes.proofs.written.entries_from.Given as goal

abbrev pub invariant-loop-place : goal.invariant-loop-place
invariant-loop-place l = l.copies ++ drop l.place l.entries ≡ drop l.fn.first l.entries
