-- Entries among which turns put theirs.
use Rattle.std.proofs.Common.{◌≡◌, ⊎_elim, inl, inr, List, [], ◌∷◌, ◌++◌, refl, sym, ap, subst, append-nil}
use Rattle.std.specs.List.{AllByRecursion as AllAre}
use Rattle.program_lock.specs.Merge.{IsMergeOf}
use Rattle.member_turns.specs.Lower.locked_build.declared.ask.Entry.{Entry}
use Rattle.member_turns.specs.Turns.{Turn, MadeOf}

module _ {H A : Type 0} where
  -- turns one after the other
  pub made_join : (xs ys : List (Turn H A)) (before mid after : List Entry) → MadeOf before xs mid → MadeOf mid ys after → MadeOf before (xs ++ ys) after
  made_join [] ys before mid after m n = subst (λ (es : List Entry). MadeOf es ys after) (sym m) n
  made_join (t ∷ xs) ys before mid after m n = (m.0, m.1, made_join xs ys m.0 mid after m.2 n)

  -- one turn more
  pub made_more : (xs : List (Turn H A)) (turn : Turn H A) (before mid after : List Entry) → MadeOf before xs mid → IsMergeOf mid turn.own after → MadeOf before (xs ++ turn ∷ []) after
  made_more xs turn before mid after m one = made_join xs (turn ∷ []) before mid after m (after, one, refl)

module _ {A : Type 0} where
  -- what holds of all of two holds of all that are made of them
  pub all_merged : (P : A → Type 0) (xs ys zs : List A) → IsMergeOf xs ys zs → AllAre P xs → AllAre P ys → AllAre P zs
  all_merged P xs ys [] m one two = tt
  all_merged P xs ys (z ∷ zs) m one two = ⊎_elim
      (λ (l : (us : List A) × (xs ≡ z ∷ us) × IsMergeOf us ys zs). let here : AllAre P (z ∷ l.0) = subst (AllAre P) l.1 one in (here.0, all_merged P l.0 ys zs l.2 here.1 two))
      (λ (r : (vs : List A) × (ys ≡ z ∷ vs) × IsMergeOf xs vs zs). let here : AllAre P (z ∷ r.0) = subst (AllAre P) r.1 two in (here.0, all_merged P xs r.0 zs r.2 one here.1))
      m

  merge_only : (zs : List A) → IsMergeOf [] zs zs
  merge_only [] = (refl, refl)
  merge_only (z ∷ zs) = inr (zs, refl, merge_only zs)

  -- behind others
  pub merge_behind : (xs ys : List A) → IsMergeOf xs ys (xs ++ ys)
  merge_behind [] ys = merge_only ys
  merge_behind (x ∷ xs) ys = inl (xs, refl, merge_behind xs ys)

  pub merge_front : (front xs ys zs : List A) → IsMergeOf xs ys zs → IsMergeOf (front ++ xs) ys (front ++ zs)
  merge_front [] xs ys zs m = m
  merge_front (f ∷ front) xs ys zs m = inl (front ++ xs, refl, merge_front front xs ys zs m)

  pub same_rest : (xs ys zs : List A) → xs ++ ys ≡ xs ++ zs → ys ≡ zs
  same_rest [] ys zs e = e
  same_rest (x ∷ xs) ys zs e = let tails : xs ++ ys ≡ xs ++ zs = cc in same_rest xs ys zs tails

-- what turns make of none they make of any, behind it
made_front : {H A : Type 0} (front : List Entry) (turns : List (Turn H A)) (xs ys : List Entry) → MadeOf xs turns ys → MadeOf (front ++ xs) turns (front ++ ys)
made_front front [] xs ys m = ap (λ (l : List Entry). front ++ l) m
made_front front (turn ∷ turns) xs ys m = (front ++ m.0, merge_front front xs turn.own m.0 m.1, made_front front turns m.0 ys m.2)

pub made_behind : {H A : Type 0} (before : List Entry) (turns : List (Turn H A)) (part : List Entry) → MadeOf [] turns part → MadeOf before turns (before ++ part)
made_behind before turns part m = subst (λ (l : List Entry). MadeOf l turns (before ++ part)) (append-nil before) (made_front before turns [] part m)
