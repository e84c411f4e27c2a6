-- A text that is written part by part.
use Rattle.std.proofs.Common.{◌≡◌, ℕ, ◌+◌, ◌-◌, ◌<◌, ◌∷◌, [], true, false, eqb, List, length, get_or, drop, Some, slice_get, Err, Result, if◌then◌else◌, refl, sym, ap, ◌∙◌, subst, arith}
use Rattle.std.proofs.lemmas.Option.{slice_get_within}
use Rattle.model_values.specs.Limits.{Limits}
use Rattle.model_values.specs.TextOf.{Writing, Wrote, Stops, inside_map, pairs_behind, text_within, values_behind, write_then}
use Rattle.model_values.specs.declared.cell.Cell.{Cell}
use Rattle.model_values.specs.declared.key.Key.{Key}
use Rattle.model_values.specs.declared.limit.LimitKind.TheVariants.{ValueDepth}
use Rattle.model_values.specs.declared.value.Value.{Value}
use Rattle.value_view.specs.Answers.{Writes}
use Rattle.value_view.specs.Depth.{entries_inside, entry_behind, item_behind, text_here, values_inside}
use Rattle.value_view.specs.declared.refusal.OpRefusal.{OpRefusal}
use Rattle.value_view.specs.declared.refusal.OpRefusal.TheVariants.{Memory, Thrown, Limit}
use Rattle.value_view.proofs.DepthLemmas.{pairs-more, text_within-is, values-more}

-- the refusal of a part is that of the whole
pub carried : (w whole : Writing) (go : List ℕ → Writing) (s t : List ℕ) (e : OpRefusal) → whole ≡ write_then w go → Writes w s (Err e) → Writes whole t (Err e)
carried w whole go s t Memory split h = tt
carried w whole go s t (Thrown c) split h = h
carried w whole go s t (Limit k) split h = split ∙ ap (λ x. write_then x go) h

-- behind what was written stands this
pub part-written : (l : Limits) (h : List Cell) (left : ℕ) (v : Value) (w : Writing) (t s : List ℕ) (r : Result (Unit {0}) OpRefusal) → w ≡ Wrote t → Writes (text_here l h left v t) s r → Writes (write_then w (text_within l h left v)) s r
part-written l h left v w t s r e written =
    let all = ap (λ x. write_then x (text_within l h left v)) e ∙ text_within-is l h left v t in
    subst (λ x. Writes x s r) (sym all) written

module _ (l : Limits) (h : List Cell) where
  pairs_inside : (part : Value → List ℕ → Writing) (es : List (Key × Value)) (t : List ℕ) → 0 < length es → inside_map l h part es t ≡ pairs_behind l h part true es t
  pairs_inside part [] t some = absurd (omega (arith, some))
  pairs_inside part (e ∷ es) t some = refl

  -- the refusal of a value is that of its list
  pub list-carried : (left : ℕ) (vs : List Value) (i : ℕ) (d : Value) (first t s u : List ℕ) (e : OpRefusal) → eqb left 0 ≡ false → i < length vs → values_behind l h (text_within l h (left - 1)) (eqb i 0) (drop i vs) t ≡ values_behind l h (text_within l h (left - 1)) true vs first → Writes (item_behind l h (text_within l h (left - 1)) (eqb i 0) (get_or vs i d) t) s (Err e) → Writes (values_inside l h left vs first) u (Err e)
  list-carried left vs i d first t s u e some lt before refused =
      let part = text_within l h (left - 1) in
      let split = ap (λ b. if b then Stops ValueDepth else values_behind l h part true vs first) some ∙ sym before ∙ values-more l h part vs i d t lt in
      carried (item_behind l h part (eqb i 0) (get_or vs i d) t) _ (values_behind l h part (eqb (i + 1) 0) (drop (i + 1) vs)) s u e split refused

  -- the refusal of an entry is that of its map
  pub map-carried : (left : ℕ) (es : List (Key × Value)) (i : ℕ) (p : Key × Value) (first t s u : List ℕ) (e : OpRefusal) → eqb left 0 ≡ false → slice_get es i ≡ Some p → pairs_behind l h (text_within l h (left - 1)) (eqb i 0) (drop i es) t ≡ pairs_behind l h (text_within l h (left - 1)) true es first → Writes (entry_behind l h (text_within l h (left - 1)) (eqb i 0) p.0 p.1 t) s (Err e) → Writes (entries_inside l h left es first) u (Err e)
  map-carried left es i p first t s u e some got before refused =
      let part = text_within l h (left - 1) in
      let lt = slice_get_within es i p got in
      let split = ap (λ b. if b then Stops ValueDepth else inside_map l h part es first) some ∙ pairs_inside part es first (omega (arith, lt)) ∙ sym before ∙ pairs-more l h part es i p t got in
      carried (entry_behind l h part (eqb i 0) p.0 p.1 t) _ (pairs_behind l h part (eqb (i + 1) 0) (drop (i + 1) es)) s u e split refused

  -- an entry was written
  pub map-goes_on : (part : Value → List ℕ → Writing) (es : List (Key × Value)) (i : ℕ) (p : Key × Value) (t s : List ℕ) (whole : Writing) → slice_get es i ≡ Some p → entry_behind l h part (eqb i 0) p.0 p.1 t ≡ Wrote s → pairs_behind l h part (eqb i 0) (drop i es) t ≡ whole → pairs_behind l h part (eqb (i + 1) 0) (drop (i + 1) es) s ≡ whole
  map-goes_on part es i p t s whole got wrote before =
      sym (ap (λ w. write_then w (pairs_behind l h part (eqb (i + 1) 0) (drop (i + 1) es))) wrote) ∙ sym (pairs-more l h part es i p t got) ∙ before
