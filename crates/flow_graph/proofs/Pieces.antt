-- A loop that puts a piece of text for each element of a list.
use Rattle.std.proofs.Common.{◌≡◌, ◌∙◌, ℕ, ◌+◌, ◌<◌, ◌≤◌, List, [], ◌∷◌, ◌++◌, length, map, drop, get_or, ap, sym, append_assoc, add-one, drop-cons, decimal}
use Rattle.std.specs.List.{join_with_byte, flat_map}
use Rattle.std.proofs.lemmas.List.{drop_all, append-nil}

module _ {A : Type 0} (f : A → List ℕ) (xs : List A) (i : ℕ) (text : List ℕ) where
  pub put-step : (d : A) {t g : List ℕ} → i < length xs → t ≡ text ++ f (get_or xs i d) → text ++ flat_map f (drop i xs) ≡ g → t ++ flat_map f (drop (i + 1) xs) ≡ g
  put-step d within put rest =
      ap (λ (ys : List ℕ). ys ++ flat_map f (drop (i + 1) xs)) put
      ∙ append_assoc text (f (get_or xs i d)) (flat_map f (drop (i + 1) xs))
      ∙ ap (λ (j : ℕ). text ++ (f (get_or xs i d) ++ flat_map f (drop j xs))) (add-one i)
      ∙ ap (λ (ys : List A). text ++ flat_map f ys) (sym (drop-cons xs i d within))
      ∙ rest

  pub put-done : {g : List ℕ} → length xs ≤ i → text ++ flat_map f (drop i xs) ≡ g → text ≡ g
  put-done behind rest = sym (append-nil text) ∙ ap (λ (ys : List A). text ++ flat_map f ys) (sym (drop_all i xs behind)) ∙ rest

-- a number with the blank before it
abbrev pub blank_decimal : ℕ → List ℕ
blank_decimal n = 32 ∷ decimal n

pub joined_numbers : (n : ℕ) (ns : List ℕ) → join_with_byte 32 (map decimal (n ∷ ns)) ≡ decimal n ++ flat_map blank_decimal ns
joined_numbers n [] = sym (append-nil (decimal n))
joined_numbers n (m ∷ ns) = ap (λ (bs : List ℕ). decimal n ++ 32 ∷ bs) (joined_numbers m ns)

-- a blank and a number, put one after the other
pub put_blank : (n : ℕ) (text u t : List ℕ) → u ≡ text ++ 32 ∷ [] → t ≡ u ++ decimal n → t ≡ text ++ blank_decimal n
put_blank n text u t blank digits = digits ∙ ap (λ (bs : List ℕ). bs ++ decimal n) blank ∙ append_assoc text (32 ∷ []) (decimal n)
