use Rattle.std.proofs.Common.{◌≤◌, ◌+◌, ◌-◌, length, map}
use Rattle.image_changes.specs.Walks.{Goes}
use Rattle.image_changes.proofs.walk.renewal.Given as goal

abbrev pub invariant-loop-walk : goal.invariant-loop-walk
invariant-loop-walk g l = record {
  had : l.walk.had ≤ length l.before;
  has : l.walk.has ≤ length l.now;
  goes : Goes g.C.Rewrite.by g.C.Rewrite.number g.C.Rewrite.made g.C.Rewrite.shortest l.before (map g.C.Rewrite.seen l.now) l.walk;
}

abbrev pub decreases-loop-walk : goal.decreases-loop-walk
decreases-loop-walk g l = (length l.before + length l.now) - (l.walk.had + l.walk.has)
