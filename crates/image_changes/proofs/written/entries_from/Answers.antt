use Rattle.std.proofs.Common.{◌∙◌, ◌++◌, List, add-one, ap, arith, sym}
use Rattle.std.proofs.lemmas.List.{append-nil, drop_all}
use Rattle.model_values.specs.declared.key.Key.{Key}
use Rattle.model_values.specs.declared.value.Value.{Value}
use Rattle.image_changes.proofs.GrownCells.{copied_on}
use Rattle.image_changes.proofs.written.entries_from.Goals as goal

pub loop-place-preserved : goal.loop-place-preserved
loop-place-preserved c =
    rw add-one (copied_on c.args.entries.now c.loop-place.copies c.copy_entry.new.copies c.args.first c.loop-place.place c.len-place-end.ensures.distinct (omega (arith, c.loop-place-test.true, c.len-place-end.ensures.len)) c.loop-place.invariant c.in_ok-copy_entry.ensures)

pub returns-clause-copies : goal.returns-clause-copies
returns-clause-copies c =
    sym (append-nil c.loop-place.copies)
    ∙ ap (λ (l : List (Key × Value)). c.loop-place.copies ++ l) (sym (drop_all c.loop-place.place c.args.entries.now (omega (arith, c.loop-place-test.false, c.len-place-end.ensures.len))))
    ∙ c.loop-place.invariant
