-- A loop that puts a piece of text for each element of a list.
use Rattle.std.proofs.Common.{◌≡◌, ◌∙◌, ℕ, ◌+◌, ◌<◌, ◌≤◌, List, ◌++◌, length, drop, get_or, ap, sym, append_assoc, add-one, drop-cons}
use Rattle.std.specs.List.{flat_map}
use Rattle.std.proofs.lemmas.List.{drop_all, append-nil}

module _ {A : Type 0} (f : A → List ℕ) (xs : List A) (i : ℕ) (text : List ℕ) where
  pub put-step : (d : A) {t g : List ℕ} → i < length xs → t ≡ text ++ f (get_or xs i d) → text ++ flat_map f (drop i xs) ≡ g → t ++ flat_map f (drop (i + 1) xs) ≡ g
  put-step d within put rest =
      ap (λ (ys : List ℕ). ys ++ flat_map f (drop (i + 1) xs)) put
      ∙ append_assoc text (f (get_or xs i d)) (flat_map f (drop (i + 1) xs))
      ∙ ap (λ (j : ℕ). text ++ (f (get_or xs i d) ++ flat_map f (drop j xs))) (add-one i)
      ∙ ap (λ (ys : List A). text ++ flat_map f ys) (sym (drop-cons xs i d within))
      ∙ rest

  pub put-done : {g : List ℕ} → length xs ≤ i → text ++ flat_map f (drop i xs) ≡ g → text ≡ g
  put-done behind rest = sym (append-nil text) ∙ ap (λ (ys : List A). text ++ flat_map f ys) (sym (drop_all i xs behind)) ∙ rest

-- four pieces, put one after the other
pub four : (t a b d e : List ℕ) {t1 t2 t3 : List ℕ} → t1 ≡ t ++ a → t2 ≡ t1 ++ b → t3 ≡ t2 ++ d → t3 ++ e ≡ t ++ (a ++ (b ++ (d ++ e)))
four t a b d e {t1} {t2} {t3} first second third =
    ap (λ (xs : List ℕ). xs ++ e) third
    ∙ append_assoc t2 d e
    ∙ ap (λ (xs : List ℕ). xs ++ (d ++ e)) second
    ∙ append_assoc t1 b (d ++ e)
    ∙ ap (λ (xs : List ℕ). xs ++ (b ++ (d ++ e))) first
    ∙ append_assoc t a (b ++ (d ++ e))
