-- Lists that rise: an item is below all behind it, and what is left behind the first ones rises too.
use Rattle.std.proofs.Common.{◌≡◌, ◌∙◌, ◌<◌, ℕ, zero, suc, List, [], ◌∷◌, drop, map, None, true, refl, ap, subst}
use Rattle.std.specs.Prelude.{◌&&◌}
use Rattle.std.specs.Ordering.{MatchOrdering, is_lt, nat_cmp, on, ordering_reverse}
use Rattle.std.specs.Cmp.{ranks}
use Rattle.std.specs.declared.cmp.Ordering.{Ordering}
use Rattle.std.specs.declared.cmp.Ordering.TheVariants.{Less, Equal, Greater}
use Rattle.std.specs.Cmp.Lexicographic.{slice_cmp, nat_list_cmp_total}
use Rattle.std.proofs.lemmas.Cmp.{nat_cmp_total}
use Rattle.model_values.specs.declared.cell.Binding.{Binding}
use Rattle.model_run.specs.Fitting.{NamesRise, Rises}
use Rattle.delta_form.specs.Changes.{rising}
use Rattle.delta_form.proofs.Fronts.{is_less}
use Rattle.image_changes.specs.Walks.{Above}
use Rattle.image_changes.proofs.Turns.{below_rest, less_is}

module _ {X : Type 0} (by : X → ℕ) where
  pub rises_behind : (x : X) (xs : List X) → Rises (map by (x ∷ xs)) → Rises (map by xs)
  rises_behind x [] rise = tt
  rises_behind x (y ∷ ys) rise = rise.1

  pub rises_above : (x : X) (xs : List X) → Rises (map by (x ∷ xs)) → Above nat_cmp by (by x) xs
  rises_above x [] rise = tt
  rises_above x (y ∷ ys) rise =
      let less = less_is (by x) (by y) rise.0 in
      (less, below_rest nat_cmp nat_cmp_total by (λ (n : ℕ). n) (λ c o. None) (by x) y ys less (rises_above y ys rise.1))

  pub rises_drop : (n : ℕ) (xs : List X) → Rises (map by xs) → Rises (map by (drop n xs))
  rises_drop zero xs rise = rise
  rises_drop (suc n) [] rise = tt
  rises_drop (suc n) (x ∷ xs) rise = rises_drop n xs (rises_behind x xs rise)

  -- one above is above all behind it
  pub rest_above : (k : ℕ) (x : X) (xs : List X) → nat_cmp k (by x) ≡ Less → Rises (map by (x ∷ xs)) → Above nat_cmp by k (x ∷ xs)
  rest_above k x xs less rise = (less, below_rest nat_cmp nat_cmp_total by (λ (n : ℕ). n) (λ c o. None) k x xs less (rises_above x xs rise))

pub names_behind : (b : Binding) (bs : List Binding) → NamesRise (b ∷ bs) → NamesRise bs
names_behind b [] rise = tt
names_behind b (c ∷ bs) rise = rise.1

pub names_above : (b : Binding) (bs : List Binding) → NamesRise (b ∷ bs) → Above (slice_cmp nat_cmp) (λ x. x.name) b.name bs
names_above b [] rise = tt
names_above b (c ∷ bs) rise =
    let less = is_less (slice_cmp nat_cmp b.name c.name) rise.0 in
    (less, below_rest (slice_cmp nat_cmp) nat_list_cmp_total (λ (x : Binding). x.name) (λ (x : Binding). x.name) (λ x o. None) b.name c bs less (names_above c bs rise.1))

pub names_drop : (n : ℕ) (bs : List Binding) → NamesRise bs → NamesRise (drop n bs)
names_drop zero bs rise = rise
names_drop (suc n) [] rise = tt
names_drop (suc n) (b ∷ bs) rise = names_drop n bs (names_behind b bs rise)

-- numbers that rise pass the test
pub rises_rising : {X : Type 0} (by : X → ℕ) (xs : List X) → Rises (map by xs) → rising (on by nat_cmp) xs ≡ true
rises_rising by [] rise = refl
rises_rising by (x ∷ []) rise = refl
rises_rising by (x ∷ y ∷ ys) rise = ap (λ (o : Ordering). is_lt o && rising (on by nat_cmp) (y ∷ ys)) (less_is (by x) (by y) rise.0) ∙ rises_rising by (y ∷ ys) rise.1

-- what a comparison of two numbers has told
pub equal_is : (m n : ℕ) → nat_cmp m n ≡ Equal → m ≡ n
equal_is m n e = subst (λ (o : Ordering). MatchOrdering o (m < n) (m ≡ n) (n < m)) e (ranks m n)

pub greater_is : (m n : ℕ) → nat_cmp m n ≡ Greater → nat_cmp n m ≡ Less
greater_is m n e = nat_cmp_total.antisymm n m ∙ ap ordering_reverse e
