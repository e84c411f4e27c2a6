use Rattle.std.proofs.Common.{◌≡◌, ◌+◌, ◌*◌, ◌<◌, ◌≤◌, ℕ, List, length, drop, get_or, ap, sym, subst, ◌∙◌, arith}
use Rattle.std.specs.List.{All}
use Rattle.std.proofs.lemmas.List.{length-drop}
use Rattle.std.proofs.lemmas.List.Elements.{All-get_or}
use Rattle.cell_heap.specs.Soundness.{ValueBelow}
use Rattle.model_values.specs.Limits.{product_limits}
use Rattle.model_values.specs.Index.{key_of}
use Rattle.model_values.specs.Kinds.{kind}
use Rattle.model_values.specs.Walks.{kept_entries, with_entry}
use Rattle.model_values.specs.declared.key.Key.{Key}
use Rattle.model_values.specs.declared.value.Value.{Value}
use Rattle.model_values.specs.declared.value.Value.TheVariants.{Null}
use Rattle.value_walks.proofs.WalkLemmas.{entries_more, entries_none, with_entry_below}
use Rattle.value_walks.proofs.walk.kept_entries.Goals as goal

pub loop-pair-preserved : goal.loop-pair-preserved
loop-pair-preserved c =
    let h = c.args.heap.now.cells in
    let n = length h in
    let vs = c.args.kept.now in
    let i = 2 * c.loop-pair.pair in
    let within : i + 1 < length vs = omega arith in
    let next : 2 * (c.loop-pair.pair + 1) ≡ i + 2 = omega arith in
    let put : c.put_entry.new.entries ≡ with_entry product_limits h c.loop-pair.entries (key_of (kind h (get_or vs i Null))) (get_or vs (i + 1) Null) = c.in_ok-put_entry.ensures.put in
    record {
      rest = ap (λ (m : ℕ). kept_entries product_limits h c.put_entry.new.entries (drop m vs)) next
          ∙ ap (λ (es : List (Key × Value)). kept_entries product_limits h es (drop (i + 2) vs)) put
          ∙ sym (entries_more h c.loop-pair.entries vs i Null within) ∙ c.loop-pair.invariant.rest;
      below = subst (λ (es : List (Key × Value)). All (λ e. ValueBelow n e.1) es) (sym put)
          (with_entry_below n h c.loop-pair.entries (key_of (kind h (get_or vs i Null))) (get_or vs (i + 1) Null) c.loop-pair.invariant.below (All-get_or (ValueBelow n) vs (i + 1) Null within c.requires));
    }

pub returns-clause-entries : goal.returns-clause-entries
returns-clause-entries c =
    let h = c.args.heap.now.cells in
    let rest = drop (2 * c.loop-pair.pair) c.args.kept.now in
    let few : length rest ≤ 1 = omega (arith, length-drop (2 * c.loop-pair.pair) c.args.kept.now) in
    sym (entries_none h c.loop-pair.entries rest few) ∙ c.loop-pair.invariant.rest
