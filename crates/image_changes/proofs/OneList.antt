-- Two lists by rising keys that have the same keys, and at each key the same, are one.
use Rattle.std.proofs.Common.{◌≡◌, ◌∙◌, ◌⊎◌, List, [], ◌∷◌, refl, sym, ap, subst, inl, inr}
use Rattle.std.specs.List.{AllByRecursion as AllAre}
use Rattle.std.specs.Cmp.{IsTotalOrder}
use Rattle.std.specs.declared.cmp.Ordering.{Ordering}
use Rattle.std.specs.declared.cmp.Ordering.TheVariants.{Less, Equal, Greater}
use Rattle.std.proofs.lemmas.Map.Lookups.{CmpEqualImpliesEq}
use Rattle.delta_form.proofs.Orders.{all_to}
use Rattle.image_changes.specs.Walks.{Above}
use Rattle.image_changes.proofs.Finding.{NoneAt, Sorted, differs, itself, turned_back}

-- the keys of the first list are keys of the second one
abbrev pub Within : {K C : Type 0} → (C → K) → List C → List C → Type 0
Within {K} number cs ds = (k : K) → NoneAt number k ds → NoneAt number k cs

module _ {K C : Type 0} (order : K → K → Ordering) (total : IsTotalOrder order) (exact : CmpEqualImpliesEq order) (number : C → K) where
  decided : (a b : K) → (a ≡ b) ⊎ (¬ (a ≡ b))
  decided a b = go (order a b) refl
    where
      apart : (o : Ordering) → order a b ≡ o → ¬ (o ≡ Equal) → ¬ (a ≡ b)
      apart o is unlike = λ same. unlike (sym is ∙ subst (λ (k : K). order a k ≡ Equal) same (itself order total a))

      go : (o : Ordering) → order a b ≡ o → (a ≡ b) ⊎ (¬ (a ≡ b))
      go Less is = inr (apart Less is (λ e. absurd cc))
      go Equal is = inl (exact a b is)
      go Greater is = inr (apart Greater is (λ e. absurd cc))

  pub above_none : (k : K) (cs : List C) → Above order number k cs → NoneAt number k cs
  above_none k cs above = all_to (λ c. order k (number c) ≡ Less) (λ c. ¬ (number c ≡ k)) (λ c less same. differs order total k (number c) less (sym same)) cs above

  -- a key below the first one is below all
  below_none : (k : K) (c : C) (cs : List C) → order k (number c) ≡ Less → Above order number (number c) cs → NoneAt number k (c ∷ cs)
  below_none k c cs less above =
      above_none k (c ∷ cs) (less, all_to (λ d. order (number c) (number d) ≡ Less) (λ d. order k (number d) ≡ Less) (λ d behind. total.trans k (number c) (number d) less behind) cs above)

  behind_within : (c d : C) (cs ds : List C) → number c ≡ number d → Above order number (number c) cs → Within number (c ∷ cs) (d ∷ ds) → Within number cs ds
  behind_within c d cs ds same above within = λ k none. go k none (decided (number d) k)
    where
      go : (k : K) → NoneAt number k ds → (number d ≡ k) ⊎ (¬ (number d ≡ k)) → NoneAt number k cs
      go k none (inl is) = subst (λ (m : K). NoneAt number m cs) (same ∙ is) (above_none (number c) cs above)
      go k none (inr unlike) = (within k (unlike, none)).1

  module _ (Fact : C → Type 0) (one : (c d : C) → number c ≡ number d → Fact c → Fact d → c ≡ d) where
    pub one_list : (cs ds : List C) → Sorted order number cs → Sorted order number ds → AllAre Fact cs → AllAre Fact ds → Within number cs ds → Within number ds cs → cs ≡ ds
    one_list [] [] rise rise_too facts facts_too to back = refl
    one_list [] (d ∷ ds) rise rise_too facts facts_too to back = absurd ((back (number d) tt).0 refl)
    one_list (c ∷ cs) [] rise rise_too facts facts_too to back = absurd ((to (number c) tt).0 refl)
    one_list (c ∷ cs) (d ∷ ds) rise rise_too facts facts_too to back =
        go (λ same. one_list cs ds rise.1 rise_too.1 facts.1 facts_too.1 (behind_within c d cs ds same rise.0 to) (behind_within d c ds cs (sym same) rise_too.0 back)) (order (number c) (number d)) refl
      where
        go : (number c ≡ number d → cs ≡ ds) → (o : Ordering) → order (number c) (number d) ≡ o → c ∷ cs ≡ d ∷ ds
        go rest Less is = absurd ((to (number c) (below_none (number c) d ds is rise_too.0)).0 refl)
        go rest Equal is =
            let same = exact (number c) (number d) is in
            ap (λ (x : C). x ∷ cs) (one c d same facts.0 facts_too.0) ∙ ap (λ (l : List C). d ∷ l) (rest same)
        go rest Greater is = absurd ((back (number d) (below_none (number d) c cs (turned_back order total (number c) (number d) is) rise.0)).0 refl)
