-- Numbers that stand among others.
use Rattle.std.proofs.Common.{◌≡◌, ⊎_elim, inl, inr, ℕ, false, List, [], ◌∷◌, ◌++◌, refl, sym, ap, subst}
use Rattle.std.specs.List.{IsDistinct, AllByRecursion as AllAre}
use Rattle.std.specs.Prelude.{nat_eq}
use Rattle.program_lock.specs.Merge.{IsMergeOf}
use Rattle.program_lock.proofs.MergeLemmas.{IsMergeOf-nil}
use Rattle.member_turns.specs.Turning.{IsPart}

module _ {A : Type 0} where
  merge_second : (ws : List A) → IsMergeOf [] ws ws
  merge_second [] = (refl, refl)
  merge_second (w ∷ ws) = inr (ws, refl, merge_second ws)

  merge_first_more : (xs ys zs ws : List A) → IsMergeOf xs ys zs → IsMergeOf (xs ++ ws) ys (zs ++ ws)
  merge_first_more xs ys [] ws m = subst (λ (a : List A). IsMergeOf (a ++ ws) ys ws) (sym m.0) (subst (λ (b : List A). IsMergeOf ws b ws) (sym m.1) (IsMergeOf-nil ws))
  merge_first_more xs ys (z ∷ zs) ws m = ⊎_elim
      (λ (l : (us : List A) × (xs ≡ z ∷ us) × IsMergeOf us ys zs). inl (l.0 ++ ws, ap (λ (a : List A). a ++ ws) l.1, merge_first_more l.0 ys zs ws l.2))
      (λ (r : (vs : List A) × (ys ≡ z ∷ vs) × IsMergeOf xs vs zs). inr (r.0, r.1, merge_first_more xs r.0 zs ws r.2))
      m

  merge_second_more : (xs ys zs ws : List A) → IsMergeOf xs ys zs → IsMergeOf xs (ys ++ ws) (zs ++ ws)
  merge_second_more xs ys [] ws m = subst (λ (a : List A). IsMergeOf a (ys ++ ws) ws) (sym m.0) (subst (λ (b : List A). IsMergeOf [] (b ++ ws) ws) (sym m.1) (merge_second ws))
  merge_second_more xs ys (z ∷ zs) ws m = ⊎_elim
      (λ (l : (us : List A) × (xs ≡ z ∷ us) × IsMergeOf us ys zs). inl (l.0, l.1, merge_second_more l.0 ys zs ws l.2))
      (λ (r : (vs : List A) × (ys ≡ z ∷ vs) × IsMergeOf xs vs zs). inr (r.0 ++ ws, ap (λ (a : List A). a ++ ws) r.1, merge_second_more xs r.0 zs ws r.2))
      m

  -- what holds of all holds of a part
  pub all_first : (P : A → Type 0) (xs ys zs : List A) → IsMergeOf xs ys zs → AllAre P zs → AllAre P xs
  all_first P xs ys [] m all = subst (AllAre P) (sym m.0) tt
  all_first P xs ys (z ∷ zs) m all = ⊎_elim
      (λ (l : (us : List A) × (xs ≡ z ∷ us) × IsMergeOf us ys zs). subst (AllAre P) (sym l.1) (all.0, all_first P l.0 ys zs l.2 all.1))
      (λ (r : (vs : List A) × (ys ≡ z ∷ vs) × IsMergeOf xs vs zs). all_first P xs r.0 zs r.2 all.1)
      m

  pub all_append : (P : A → Type 0) (xs ys : List A) → AllAre P xs → AllAre P ys → AllAre P (xs ++ ys)
  all_append P [] ys one two = two
  all_append P (x ∷ xs) ys one two = (one.0, all_append P xs ys one.1 two)

  pub all_map : (P Q : A → Type 0) (xs : List A) → ((x : A) → P x → Q x) → AllAre P xs → AllAre Q xs
  all_map P Q [] f all = tt
  all_map P Q (x ∷ xs) f all = (f x all.0, all_map P Q xs f all.1)

pub part_none : IsPart [] []
part_none = ([], (refl, refl))

-- both have these more
pub part_more : (xs zs ws : List ℕ) → IsPart xs zs → IsPart (xs ++ ws) (zs ++ ws)
part_more xs zs ws p = (p.0, merge_first_more xs p.0 zs ws p.1)

-- the second has these more
pub part_wider : (xs zs ws : List ℕ) → IsPart xs zs → IsPart xs (zs ++ ws)
part_wider xs zs ws p = (p.0 ++ ws, merge_second_more xs p.0 zs ws p.1)

merge_beside : {A : Type 0} (fs bs xs ys zs ws : List A) → IsMergeOf fs xs zs → IsMergeOf bs ys ws → IsMergeOf (fs ++ bs) (xs ++ ys) (zs ++ ws)
merge_beside fs bs xs ys [] ws m n = subst (λ (a : List _). IsMergeOf (a ++ bs) (xs ++ ys) ws) (sym m.0) (subst (λ (b : List _). IsMergeOf bs (b ++ ys) ws) (sym m.1) n)
merge_beside {A = A} fs bs xs ys (z ∷ zs) ws m n = ⊎_elim
    (λ (l : (us : List A) × (fs ≡ z ∷ us) × IsMergeOf us xs zs). inl (l.0 ++ bs, ap (λ (a : List A). a ++ bs) l.1, merge_beside l.0 bs xs ys zs ws l.2 n))
    (λ (r : (vs : List A) × (xs ≡ z ∷ vs) × IsMergeOf fs vs zs). inr (r.0 ++ ys, ap (λ (a : List A). a ++ ys) r.1, merge_beside fs bs r.0 ys zs ws r.2 n))
    m

-- parts of two, one behind the other
pub part_beside : (fs bs zs ws : List ℕ) → IsPart fs zs → IsPart bs ws → IsPart (fs ++ bs) (zs ++ ws)
part_beside fs bs zs ws p q = (p.0 ++ q.0, merge_beside fs bs p.0 q.0 zs ws p.1 q.1)

first_differs : (xs ys zs : List ℕ) → IsMergeOf xs ys zs → IsDistinct nat_eq zs → IsDistinct nat_eq xs
unfolding IsDistinct
first_differs xs ys [] m once = subst (IsDistinct nat_eq) (sym m.0) tt
first_differs xs ys (z ∷ zs) m once = ⊎_elim
    (λ (l : (us : List ℕ) × (xs ≡ z ∷ us) × IsMergeOf us ys zs). subst (IsDistinct nat_eq) (sym l.1) (all_first (λ y. nat_eq z y ≡ false) l.0 ys zs l.2 once.0, first_differs l.0 ys zs l.2 once.1))
    (λ (r : (vs : List ℕ) × (ys ≡ z ∷ vs) × IsMergeOf xs vs zs). first_differs xs r.0 zs r.2 once.1)
    m

-- a part of different numbers
pub part_differs : (xs zs : List ℕ) → IsPart xs zs → IsDistinct nat_eq zs → IsDistinct nat_eq xs
part_differs xs zs p once = first_differs xs p.0 zs p.1 once
