use Rattle.std.proofs.Common.{◌≡◌, ◌<◌, ◌+◌, ◌∙◌, ℕ, zero, suc, pos, List, [], ◌∷◌, length, take, get_or, slice_get, Some, refl, ap, add-one, arith}
use Rattle.std.proofs.Math.Seq.{take-suc}
use Rattle.field_form.specs.Forms.{spelled}
use Rattle.field_form.specs.Cells.{entry_form, entry_behind}
use Rattle.model_values.specs.declared.key.Key.{Key}
use Rattle.model_values.specs.declared.key.Key.TheVariants as key
use Rattle.model_values.specs.declared.value.Value.{Value}
use Rattle.model_values.specs.declared.value.Value.TheVariants as value
use Rattle.record_form.specs.Sizes.{size_in, size_of_option}
use Rattle.record_form.proofs.Sums.{length_push}
use Rattle.record_form.proofs.values.EntriesMeasured.size.Goals as goal

item_at : {X : Type 0} (xs : List X) (i : ℕ) (d : X) → i < length xs → slice_get xs i ≡ Some (get_or xs i d)
item_at [] i d lt = absurd (omega (arith, lt))
item_at (x ∷ xs) zero d lt = refl
item_at (x ∷ xs) (suc i) d lt = item_at xs i d (omega (arith, lt))

pub loop-place-preserved : goal.loop-place-preserved
loop-place-preserved c =
    let d : Key × Value = (key.Int (pos 0), value.Null) in
    let es = c.args.self.now in
    let i = c.loop-place.place in
    let lt : i < length es = omega (arith, c.loop-place-test.true, c.len-count.ensures.len) in
    let e : Key × Value = get_or es i d in
    let one : c.entry_size.result ≡ size_in entry_form e = c.entry_size.ensures ∙ ap (size_of_option entry_form) (item_at es i d lt) in
    let longer : length (spelled entry_behind [] (take (suc i) es)) ≡ length (spelled entry_behind [] (take i es)) + length (entry_form.spelling e) =
    ap (λ (xs : List (Key × Value)). length (spelled entry_behind [] xs)) (take-suc es i d lt) ∙ length_push entry_behind (take i es) e in
    rw add-one (omega (arith, longer, one, c.loop-place.invariant, c.saturating_add-size.ensures))
