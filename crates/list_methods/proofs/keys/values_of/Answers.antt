use Rattle.std.proofs.Common.{◌+◌, ◌++◌, List, drop, sym, ap, ◌∙◌, arith}
use Rattle.std.specs.Map.{values_of}
use Rattle.cell_heap.proofs.SizeLemmas.{slice_get-none}
use Rattle.cell_heap.specs.ValueTypes.{Value}
use Rattle.list_methods.proofs.KeyLemmas.{values-more}
use Rattle.list_methods.proofs.keys.values_of.Goals as goal
use Rattle.list_methods.proofs.keys.values_of.Goals.{in-Some+in_ok-push, in_default}

pub loop-at-preserved : goal.loop-at-preserved
loop-at-preserved c =
    elim c.match-entry_at.branch [
      | in-Some+in_ok-push w ↦
          let more = values-more c.loop-at.values.items c.args.entries.now c.loop-at.at (w.in-Some.field-0-0.now, w.in-Some.value.now) (values_of c.args.entries.now) (sym w.in-Some.ensures) c.loop-at.invariant in
          rw w.values-is (ap (λ (vs : List Value). vs ++ values_of (drop (c.loop-at.at + 1) c.args.entries.now)) w.in_ok-push.ensures.items ∙ more)
      | in_default w ↦
          let past = slice_get-none c.args.entries.now c.loop-at.at (sym w.in_default.ensures) in
          absurd (omega (arith, past, c.loop-at-test.true, c.len-at-end.ensures.len))
    ]
