-- The text of a value and an equality by their first step, and the loops over their parts.
use Rattle.std.proofs.Common.{◌≡◌, ℕ, zero, suc, ◌+◌, ◌-◌, ◌<◌, Bool, true, false, eqb, List, ◌∷◌, length, get_or, drop, Some, slice_get, unwrap_or, if◌then◌else◌, refl, sym, ap, ◌∙◌, arith}
use Rattle.std.proofs.Math.Dec.{eqb-suc-zero}
use Rattle.std.proofs.lemmas.List.{drop_more}
use Rattle.std.specs.List.{zip}
use Rattle.std.specs.Map.{lookup}
use Rattle.model_values.specs.Equality as compared
use Rattle.model_values.specs.Keys.{same_key}
use Rattle.model_values.specs.Kinds.{kind}
use Rattle.model_values.specs.Limits.{Limits}
use Rattle.model_values.specs.TextOf as written
use Rattle.model_values.specs.declared.cell.Cell.{Cell}
use Rattle.model_values.specs.declared.key.Key.{Key}
use Rattle.model_values.specs.declared.limit.LimitKind.TheVariants.{ValueDepth}
use Rattle.model_values.specs.declared.value.Value.{Value}
use Rattle.model_values.specs.declared.value.Value.TheVariants.{Null}
use Rattle.value_view.proofs.PartLemmas.{by_key-more, entries-more, parts-by_first, zip-more}
use Rattle.value_view.specs.Depth.{entry_behind, equal_here, item_behind, text_here}

module _ (l : Limits) (h : List Cell) where
  pub text_within-is : (left : ℕ) (v : Value) (t : List ℕ) → written.text_within l h left v t ≡ text_here l h left v t
  unfolding written.text_within
  text_within-is zero v t = refl
  text_within-is (suc left) v t =
      let F : Bool → ℕ → written.Writing = λ z d. written.kind_behind l h
      (λ vs s. if z then written.Stops ValueDepth else written.values_behind l h (written.text_within l h d) true vs s)
      (λ es s. if z then written.Stops ValueDepth else written.inside_map l h (written.text_within l h d) es s) (kind h v) t in
      let e : suc left - 1 ≡ left = omega arith in
      sym (ap (λ z. F z (suc left - 1)) (eqb-suc-zero left) ∙ ap (F false) e)

  pub equal_within-is : (left : ℕ) (a b : Value) (n : ℕ) → compared.equal_within l h left a b n ≡ equal_here l h left a b n
  unfolding compared.equal_within
  equal_within-is zero a b n = refl
  equal_within-is (suc left) a b n =
      let F : Bool → ℕ → compared.Equality = λ z d. compared.counted_pair l h n (compared.kinds_equal
      (λ ps m. if z then compared.Stops ValueDepth m else compared.parts_equal (compared.equal_within l h d) ps m) (kind h a) (kind h b)) in
      let e : suc left - 1 ≡ left = omega arith in
      sym (ap (λ z. F z (suc left - 1)) (eqb-suc-zero left) ∙ ap (F false) e)

  -- the next pair of two lists, and of two maps
  pub lists-first : (left : ℕ) (xs ys : List Value) (i n : ℕ) (c d : Value) (e whole : compared.Equality) → i < length xs → length xs ≡ length ys → equal_here l h left (get_or xs i c) (get_or ys i d) n ≡ e → compared.parts_equal (compared.equal_within l h left) (zip (drop i xs) (drop i ys)) n ≡ whole → whole ≡ compared.and_then e (compared.parts_equal (compared.equal_within l h left) (zip (drop (i + 1) xs) (drop (i + 1) ys)))
  lists-first left xs ys i n c d e whole lt size first before =
      parts-by_first (compared.equal_within l h left) (zip (drop i xs) (drop i ys)) (zip (drop (i + 1) xs) (drop (i + 1) ys)) (get_or xs i c, get_or ys i d) n e whole
      (zip-more xs ys i c d lt (omega (arith, lt, size))) (equal_within-is left (get_or xs i c) (get_or ys i d) n ∙ first) before

  pub maps-first : (left : ℕ) (es fs : List (Key × Value)) (i n : ℕ) (p : Key × Value) (e whole : compared.Equality) → slice_get es i ≡ Some p → equal_here l h left p.1 (unwrap_or (lookup (same_key p.0) fs) Null) n ≡ e → compared.parts_equal (compared.equal_within l h left) (compared.by_key (drop i es) fs) n ≡ whole → whole ≡ compared.and_then e (compared.parts_equal (compared.equal_within l h left) (compared.by_key (drop (i + 1) es) fs))
  maps-first left es fs i n p e whole got first before =
      parts-by_first (compared.equal_within l h left) (compared.by_key (drop i es) fs) (compared.by_key (drop (i + 1) es) fs) (p.1, unwrap_or (lookup (same_key p.0) fs) Null) n e whole
      (by_key-more es fs i p got) (equal_within-is left p.1 (unwrap_or (lookup (same_key p.0) fs) Null) n ∙ first) before

  module _ (part : Value → List ℕ → written.Writing) where
    values_by : (b : Bool) (v : Value) (vs : List Value) (t : List ℕ) → written.values_behind l h part b (v ∷ vs) t ≡ written.write_then (item_behind l h part b v t) (written.values_behind l h part false vs)
    values_by true v vs t = refl
    values_by false v vs t = refl

    -- the next value of a list
    pub values-more : (vs : List Value) (i : ℕ) (d : Value) (t : List ℕ) → i < length vs → written.values_behind l h part (eqb i 0) (drop i vs) t ≡ written.write_then (item_behind l h part (eqb i 0) (get_or vs i d) t) (written.values_behind l h part (eqb (i + 1) 0) (drop (i + 1) vs))
    values-more vs i d t lt =
        let next : i + 1 ≡ suc i = omega arith in
        let later : eqb (i + 1) 0 ≡ false = ap (λ k. eqb k 0) next ∙ eqb-suc-zero i in
        ap (λ xs. written.values_behind l h part (eqb i 0) xs t) (drop_more vs i d lt)
        ∙ values_by (eqb i 0) (get_or vs i d) (drop (i + 1) vs) t
        ∙ ap (λ b. written.write_then (item_behind l h part (eqb i 0) (get_or vs i d) t) (written.values_behind l h part b (drop (i + 1) vs))) (sym later)

    pairs_by : (b : Bool) (e : Key × Value) (es : List (Key × Value)) (t : List ℕ) → written.pairs_behind l h part b (e ∷ es) t ≡ written.write_then (entry_behind l h part b e.0 e.1 t) (written.pairs_behind l h part false es)
    pairs_by true e es t = refl
    pairs_by false e es t = refl

    -- the next entry of a map
    pub pairs-more : (es : List (Key × Value)) (i : ℕ) (e : Key × Value) (t : List ℕ) → slice_get es i ≡ Some e → written.pairs_behind l h part (eqb i 0) (drop i es) t ≡ written.write_then (entry_behind l h part (eqb i 0) e.0 e.1 t) (written.pairs_behind l h part (eqb (i + 1) 0) (drop (i + 1) es))
    pairs-more es i e t got =
        let next : i + 1 ≡ suc i = omega arith in
        let later : eqb (i + 1) 0 ≡ false = ap (λ k. eqb k 0) next ∙ eqb-suc-zero i in
        ap (λ xs. written.pairs_behind l h part (eqb i 0) xs t) (entries-more es i e got)
        ∙ pairs_by (eqb i 0) e (drop (i + 1) es) t
        ∙ ap (λ b. written.write_then (entry_behind l h part (eqb i 0) e.0 e.1 t) (written.pairs_behind l h part b (drop (i + 1) es))) (sym later)
