-- The entries of a list, one further, as they are joined; and the positions outside of it.
use Rattle.std.proofs.Common.{◌≡◌, ℕ, Err, suc, ◌+◌, ◌<◌, ◌≤◌, ◌⊎◌, Bool, true, false, cond, eqb, inl, inr, List, ◌∷◌, length, get_or, drop, refl, sym, ap, ◌∙◌, arith}
use Rattle.std.proofs.Math.Dec.{eqb-suc-zero}
use Rattle.std.proofs.lemmas.Bool.{le-ltb}
use Rattle.std.proofs.lemmas.Int.{ints}
use Rattle.std.proofs.lemmas.List.{drop_more}
use Rattle.std.specs.Prelude.{ℤ, pos, negsuc, ◌<ℤ◌, ◌≤ℤ◌, slice_index_or}
use Rattle.list_methods.specs.Joining.{joined_entry}
use Rattle.model_values.specs.Cells.{Gives}
use Rattle.model_values.specs.Limits.{Limits, product_limits}
use Rattle.model_values.specs.ListMethods.{entry_at, joined_behind}
use Rattle.model_values.specs.TextOf.{Writing, write_then}
use Rattle.value_view.specs.Answers.{IsWritten, Writes}
use Rattle.value_view.specs.declared.refusal.OpRefusal.{OpRefusal}
use Rattle.value_view.specs.declared.refusal.OpRefusal.TheVariants.{Memory, Thrown, Limit}
use Rattle.model_values.specs.Throws.{outside}
use Rattle.cell_heap.specs.ValueTypes.{Value, Null, Cell}

module _ (l : Limits) (h : List Cell) where
  joined_by : (t : List ℕ) (b : Bool) (v : Value) (vs : List Value) (s : List ℕ) → joined_behind l h t b (v ∷ vs) s ≡ write_then (joined_entry l h t b v s) (joined_behind l h t false vs)
  joined_by t true v vs s = refl
  joined_by t false v vs s = refl

  -- the next entry of a list whose texts are joined
  pub joined-more : (t : List ℕ) (vs : List Value) (i : ℕ) (d : Value) (s : List ℕ) → i < length vs → joined_behind l h t (eqb i 0) (drop i vs) s ≡ write_then (joined_entry l h t (eqb i 0) (get_or vs i d) s) (joined_behind l h t (eqb (i + 1) 0) (drop (i + 1) vs))
  joined-more t vs i d s lt =
      let next : i + 1 ≡ suc i = omega arith in
      let later : eqb (i + 1) 0 ≡ false = ap (λ k. eqb k 0) next ∙ eqb-suc-zero i in
      ap (λ xs. joined_behind l h t (eqb i 0) xs s) (drop_more vs i d lt)
      ∙ joined_by t (eqb i 0) (get_or vs i d) (drop (i + 1) vs) s
      ∙ ap (λ b. write_then (joined_entry l h t (eqb i 0) (get_or vs i d) s) (joined_behind l h t b (drop (i + 1) vs))) (sym later)

-- the refusal of a part is that of the whole text
pub refused_whole : (w whole : Writing) (go : List ℕ → Writing) (s : List ℕ) (e : OpRefusal) → whole ≡ write_then w go → Writes w s (Err e) → IsWritten whole (Err e)
refused_whole w whole go s Memory split h = tt
refused_whole w whole go s (Thrown c) split h = h
refused_whole w whole go s (Limit k) split h = split ∙ ap (λ x. write_then x go) h

-- a position outside of the list
pub outside_list : (h : List Cell) (vs : List Value) (z : ℤ) → (z <ℤ pos 0) ⊎ (pos (length vs) ≤ℤ z) → entry_at product_limits h vs z ≡ outside product_limits h z (length vs)
outside_list h vs (negsuc i) c = refl
outside_list h vs (pos i) c =
    let past : length vs ≤ i = elim c [ inl a ↦ absurd (omega (arith, ints, a)) | inr a ↦ omega (arith, ints, a) ] in
    ap (λ (b : Bool). cond b (Gives h (slice_index_or vs i Null)) (outside product_limits h (pos i) (length vs))) (le-ltb i (length vs) past)
