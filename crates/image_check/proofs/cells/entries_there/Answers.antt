use Rattle.std.proofs.Common.{◌≡◌, ◌∙◌, ◌+◌, suc, drop, ap, sym, arith}
use Rattle.std.specs.Prelude.{◌&&◌}
use Rattle.cell_heap.proofs.SizeLemmas.{slice_get-none}
use Rattle.image_check.specs.Cells.{entries_there}
use Rattle.image_check.proofs.EntryLaws.{entry_behind}
use Rattle.image_check.proofs.cells.entries_there.Goals as goal
use Rattle.image_check.proofs.cells.entries_there.Goals.{in-Some+else-not-is_there, in_default}

pub returns-then-not-is_there : goal.returns-then-not-is_there
returns-then-not-is_there c =
    let h = c.args.cells.now in
    let es = c.args.entries.now in
    let step = entry_behind h es c.loop-at.at (c.in-Some.field-0-0.now, c.in-Some.value.now) (sym c.in-Some.ensures) in
    sym (sym c.loop-at.invariant ∙ step ∙ ap (λ b. b && entries_there h (drop (suc c.loop-at.at) es)) (sym c.is_there.ensures ∙ c.if-not-is_there.true))

pub loop-at-preserved : goal.loop-at-preserved
loop-at-preserved c =
    let h = c.args.cells.now in
    let es = c.args.entries.now in
    let next : c.loop-at.at + 1 ≡ suc c.loop-at.at = omega arith in
    elim c.match-entry_at.branch [
      | in-Some+else-not-is_there w ↦
          let step = entry_behind h es c.loop-at.at (w.in-Some.field-0-0.now, w.in-Some.value.now) (sym w.in-Some.ensures) in
          ap (λ n. entries_there h (drop n es)) next ∙ ap (λ b. b && entries_there h (drop (suc c.loop-at.at) es)) (sym (sym w.is_there.ensures ∙ w.if-not-is_there.false)) ∙ sym step ∙ c.loop-at.invariant
      | in_default w ↦
          let past = slice_get-none es c.loop-at.at (sym w.in_default.ensures) in
          absurd (omega (arith, past, c.loop-at-test.true, c.len-at-end.ensures.len))
    ]
