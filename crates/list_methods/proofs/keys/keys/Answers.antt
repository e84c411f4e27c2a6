use Rattle.std.proofs.Common.{◌≡◌, ℕ, ◌+◌, ◌++◌, ◌∷◌, [], List, Some, drop, length, length-append, slice_get, sym, ap, ap₂, ◌∙◌, arith}
use Rattle.std.proofs.lemmas.Int.{ints}
use mir.Syntax.{w32}
use mir.Val.{to_z, of_z}
use Rattle.cell_heap.proofs.SizeLemmas.{slice_get-none}
use Rattle.cell_heap.specs.ValueTypes.{InCell, IntKey, Key, TextKey, Value, Whole}
use Rattle.list_methods.proofs.KeyLemmas.{keys-number, keys-text, texts-more, texts-same}
use Rattle.model_values.specs.ListMethods.{key_cells, key_values}
use Rattle.model_values.specs.TextMethods.{text_cells}
use Rattle.list_methods.proofs.keys.keys.Goals as goal
use Rattle.list_methods.proofs.keys.keys.Goals.{in-Some-Int-default+in_ok-push-in-Some-Int-default, in-Some-Text-default+in_ok-push-in-Some-Text-default+in_ok-clone-in-Some-Text-default+in_ok-push-in-Some-Text-default-2, in-None}

pub loop-at-preserved : goal.loop-at-preserved
loop-at-preserved c =
    let es = c.args.entries.now in
    let at = c.loop-at.at in
    let rest = drop (at + 1) es in
    let n = c.args.first + length c.loop-at.texts in
    elim c.match-entry_at.branch [
      | in-Some-Int-default+in_ok-push-in-Some-Int-default w ↦
          let x = w.in-Some-Int-default.number in
          let v = w.in-Some-Int-default.field-0-1.now in
          let got : slice_get es at ≡ Some (IntKey x, v) = sym w.in-Some-Int-default.ensures ∙ ap (λ (k : Key). Some (k, v)) w.in-Some-Int-default.field-0-0-is in
          let same : to_z w32 (of_z w32 x) ≡ x = omega (arith, ints) in
          let items : w.push.new.self.items ≡ c.loop-at.values.items ++ Whole x ∷ [] = w.in_ok-push-in-Some-Int-default.ensures.items ∙ ap (λ z. c.loop-at.values.items ++ Whole z ∷ []) same in
          record {
            few = omega (arith, ap length w.texts-is, c.loop-at.invariant.few);
            texts = rw w.texts-is (texts-same c.loop-at.texts x es at v (key_cells es) got c.loop-at.invariant.texts);
            values = rw (w.values-is, w.texts-is) (ap (λ (vs : List Value). vs ++ key_values n rest) items ∙ keys-number c.loop-at.values.items n x es at v (key_values c.args.first es) got c.loop-at.invariant.values);
          }
      | in-Some-Text-default+in_ok-push-in-Some-Text-default+in_ok-clone-in-Some-Text-default+in_ok-push-in-Some-Text-default-2 w ↦
          let t = w.in-Some-Text-default.text in
          let v = w.in-Some-Text-default.field-0-1.now in
          let got : slice_get es at ≡ Some (TextKey t, v) = sym w.in-Some-Text-default.ensures ∙ ap (λ (k : Key). Some (k, v)) w.in-Some-Text-default.field-0-0-is in
          let pushed : w.push-in-Some-Text-default-2.new.self ≡ c.loop-at.texts ++ t ∷ [] = w.in_ok-push-in-Some-Text-default-2.ensures.pushed ∙ ap (λ (u : List ℕ). c.loop-at.texts ++ u ∷ []) w.in_ok-clone-in-Some-Text-default.ensures.cases in
          let items : w.push-in-Some-Text-default.new.self.items ≡ c.loop-at.values.items ++ InCell n ∷ [] = w.in_ok-push-in-Some-Text-default.ensures.items ∙ ap (λ (k : ℕ). c.loop-at.values.items ++ InCell (c.args.first + k) ∷ []) w.len-in-Some-Text-default.ensures in
          let count : c.args.first + length w.push-in-Some-Text-default-2.new.self ≡ n + 1 = omega (arith, ap length pushed, length-append c.loop-at.texts (t ∷ [])) in
          record {
            few = omega (arith, ap length w.texts-is, ap length pushed, length-append c.loop-at.texts (t ∷ []), c.loop-at.invariant.few);
            texts = rw w.texts-is (ap (λ (ts : List (List ℕ)). text_cells ts ++ key_cells rest) pushed ∙ texts-more c.loop-at.texts t es at v (key_cells es) got c.loop-at.invariant.texts);
            values = rw (w.values-is, w.texts-is) (ap₂ (λ (vs : List Value) (k : ℕ). vs ++ key_values k rest) items count ∙ keys-text c.loop-at.values.items n t es at v (key_values c.args.first es) got c.loop-at.invariant.values);
          }
      | in-None w ↦
          let past = slice_get-none es at (sym w.in-None.ensures) in
          absurd (omega (arith, past, c.loop-at-test.true, c.len-at-end.ensures.len))
    ]
