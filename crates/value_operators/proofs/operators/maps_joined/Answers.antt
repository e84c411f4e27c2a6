use Rattle.std.proofs.Common.{◌≡◌, ◌≤◌, List, length, ap, sym, ◌∙◌, subst, rules, arith}
use Rattle.std.specs.List.{All}
use Rattle.std.proofs.lemmas.List.{take_all}
use Rattle.indexmap.specs.IndexMap.{insert_all}
use Rattle.model_values.specs.Keys.{same_key}
use Rattle.model_values.specs.declared.key.Key.{Key}
use Rattle.model_values.specs.declared.value.Value.{Value}
use Rattle.cell_heap.specs.Soundness.{ValueBelow}
use Rattle.cell_heap.proofs.SizeLemmas.{slice_get-none}
use Rattle.value_operators.proofs.OperandLemmas.{insert_all_below, insert_all_more}
use Rattle.value_operators.proofs.operators.maps_joined.Goals as goal
use Rattle.value_operators.proofs.operators.maps_joined.Goals.{in-Some+in_ok-clone+in_ok-put, in_default}

pub loop-at-preserved : goal.loop-at-preserved
loop-at-preserved c =
    elim c.match-entry_at.branch [
      | in-Some+in_ok-clone+in_ok-put w ↦
          let same : w.in_ok-clone.field-0 ≡ w.in-Some.key.now = search rules in
          let more = insert_all_more c.args.xs.now c.args.ys.now c.loop-at.at (w.in-Some.key.now, w.in-Some.value.now) (sym w.in-Some.ensures) in
          let grown = rw (c.loop-at.invariant, same) at w.in_ok-put.ensures.put in
          rw w.all-is (grown ∙ sym more)
      | in_default w ↦
          let past = slice_get-none c.args.ys.now c.loop-at.at (sym w.in_default.ensures) in
          absurd (omega (arith, past, c.loop-at-test.true, c.len-at-end.ensures.len))
    ]

pub returns-clause-below : goal.returns-clause-below
returns-clause-below c = λ n a b.
    let past : length c.args.ys.now ≤ c.loop-at.at = omega (arith, c.loop-at-test.false, c.len-at-end.ensures.len) in
    let all = c.loop-at.invariant ∙ ap (λ (es : List (Key × Value)). insert_all same_key c.args.xs.now es) (take_all c.loop-at.at c.args.ys.now past) in
    subst (λ (es : List (Key × Value)). All (λ e. ValueBelow n e.1) es) (sym all) (insert_all_below n c.args.xs.now c.args.ys.now a b)
