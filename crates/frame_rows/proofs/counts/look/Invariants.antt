use Rattle.std.proofs.Common.{◌≡◌}
use Rattle.model_run.specs.Names.{look}
use Rattle.frame_rows.proofs.counts.look.Given as goal

abbrev pub invariant-loop-binding : goal.invariant-loop-binding
invariant-loop-binding l =
    (goal.iterator-loop-binding).can_next l.binding-iterator ×
    (goal.iterator-loop-binding).is_finite l.binding-iterator × (look l.name l.env ≡ look l.name l.binding-iterator.rest.now)
