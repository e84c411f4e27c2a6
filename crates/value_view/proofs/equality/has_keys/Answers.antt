use Rattle.std.proofs.Common.{◌≡◌, true, false, is_some, sym, ap, ◌∙◌, arith}
use Rattle.std.specs.Map.{lookup}
use Rattle.model_values.specs.Equality.{has_keys}
use Rattle.model_values.specs.Keys.{same_key}
use Rattle.cell_heap.proofs.SizeLemmas.{slice_get-none}
use Rattle.value_view.proofs.PartLemmas.{has_keys-present, has_keys-absent}
use Rattle.value_view.proofs.equality.has_keys.Goals as goal
use Rattle.value_view.proofs.equality.has_keys.Goals.{in-Some+else-is_none, in_default}

pub returns-then-is_none : goal.returns-then-is_none
returns-then-is_none c =
    let gone : is_some (lookup (same_key c.in-Some.key.now) c.args.ys.now) ≡ false = sym (ap is_some c.get.ensures) ∙ c.if-is_none.ensures in
    has_keys-absent c.args.xs.now c.args.ys.now c.loop-at.at (c.in-Some.key.now, c.in-Some.field-0-1.now) (has_keys c.args.xs.now c.args.ys.now) (sym c.in-Some.ensures) gone c.loop-at.invariant

pub loop-at-preserved : goal.loop-at-preserved
loop-at-preserved c =
    elim c.match-entry_at.branch [
      | in-Some+else-is_none w ↦
          let there : is_some (lookup (same_key w.in-Some.key.now) c.args.ys.now) ≡ true = sym (ap is_some w.get.ensures) ∙ w.if-is_none.ensures in
          has_keys-present c.args.xs.now c.args.ys.now c.loop-at.at (w.in-Some.key.now, w.in-Some.field-0-1.now) (has_keys c.args.xs.now c.args.ys.now) (sym w.in-Some.ensures) there c.loop-at.invariant
      | in_default w ↦
          let past = slice_get-none c.args.xs.now c.loop-at.at (sym w.in_default.ensures) in
          absurd (omega (arith, past, c.loop-at-test.true, c.len-at-end.ensures.len))
    ]
