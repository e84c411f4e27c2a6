-- What stands at each key of a list by rising keys, before its changes and after them.
use Rattle.std.proofs.Common.{◌≡◌, ◌∙◌, List, [], ◌∷◌, ◌++◌, Option, Some, None, refl, sym, ap, subst}
use Rattle.std.specs.Prelude.{IfSome}
use Rattle.std.specs.List.{AllByRecursion as AllAre}
use Rattle.std.specs.Option.{option_map, option_to_list}
use Rattle.std.specs.Ordering.{ordering_reverse}
use Rattle.std.specs.Cmp.{IsTotalOrder}
use Rattle.std.specs.declared.cmp.Ordering.{Ordering}
use Rattle.std.specs.declared.cmp.Ordering.TheVariants.{Less, Equal, Greater}
use Rattle.std.proofs.lemmas.Map.Lookups.{CmpEqualImpliesEq}
use Rattle.delta_form.specs.Applying.{◌>>=◌}
use Rattle.delta_form.specs.Changes.{Changing, Parted, changed, part_before, parted}
use Rattle.delta_form.proofs.Orders.{all_to}
use Rattle.image_changes.specs.Walks.{Above}
use Rattle.image_changes.proofs.Turns.{stays}

-- each is below all behind it
abbrev pub Sorted : {K Y : Type 0} → (K → K → Ordering) → (Y → K) → List Y → Type 0
Sorted order key [] = Unit {0}
Sorted order key (y ∷ ys) = Above order key (key y) ys × Sorted order key ys

abbrev pub here : {X : Type 0} → Ordering → X → Option X → Option X
here Less x rest = rest
here Equal x rest = Some x
here Greater x rest = rest

-- the first item that has this key
abbrev pub at : {K X : Type 0} → (K → K → Ordering) → (X → K) → K → List X → Option X
at order by k [] = None
at order by k (x ∷ xs) = here (order (by x) k) x (at order by k xs)

-- none of these has this key
abbrev pub NoneAt : {K C : Type 0} → (C → K) → K → List C → Type 0
NoneAt number k cs = AllAre (λ c. ¬ (number c ≡ k)) cs

-- The changes make of what stood at their keys what stands there then, and at all other keys there stands what stood.
pub record Finds {K C X : Type 0} (order : K → K → Ordering) (by : X → K) (number : C → K) (made : C → Option X → Option (Option X)) (cs : List C) (xs ys : List X) : Type 0 where
  pub made_at : AllAre (λ c. made c (at order by (number c) xs) ≡ Some (at order by (number c) ys)) cs
  pub others : (k : K) → NoneAt number k cs → at order by k ys ≡ at order by k xs
  pub above : (k : K) → Above order by k xs → Above order number k cs → Above order by k ys
  pub sorted : Sorted order by ys

pub both_all : {A : Type 0} (P Q : A → Type 0) (xs : List A) → AllAre P xs → AllAre Q xs → AllAre (λ x. P x × Q x) xs
both_all P Q [] ps qs = tt
both_all P Q (x ∷ xs) ps qs = ((ps.0, qs.0), both_all P Q xs ps.1 qs.1)

module _ {K : Type 0} (order : K → K → Ordering) (total : IsTotalOrder order) where
  pub itself : (a : K) → order a a ≡ Equal
  itself a = go (order a a) (total.antisymm a a)
    where
      go : (o : Ordering) → o ≡ ordering_reverse o → o ≡ Equal
      go Less e = absurd cc
      go Equal e = refl
      go Greater e = absurd cc

  pub differs : (a b : K) → order a b ≡ Less → a ≡ b → ⊥
  differs a b less same =
      let is : order a b ≡ Equal = subst (λ (k : K). order a k ≡ Equal) same (itself a) in
      let no : Less ≡ Equal = sym less ∙ is in absurd cc

  pub turned : (a b : K) → order a b ≡ Less → order b a ≡ Greater
  turned a b less = total.antisymm b a ∙ ap ordering_reverse less

  pub turned_back : (a b : K) → order a b ≡ Greater → order b a ≡ Less
  turned_back a b greater = total.antisymm b a ∙ ap ordering_reverse greater

module _ {K C X : Type 0} (order : K → K → Ordering) (total : IsTotalOrder order) (exact : CmpEqualImpliesEq order) (by : X → K) (number : C → K) (made : C → Option X → Option (Option X)) (keeps : (c : C) (stood : Option X) (y : X) → IfSome stood (λ x. by x ≡ number c) → made c stood ≡ Some (Some y) → by y ≡ number c) where
  abbrev how : Changing C X
  how = record { compare = λ x c. order (by x) (number c); order = λ c d. order (number c) (number d); made = made }

  abbrev find : K → List X → Option X
  find k xs = at order by k xs

  abbrev Found : List C → List X → List X → Type 0
  Found cs xs ys = Finds order by number made cs xs ys

  -- it has the key of this change, where there is one
  abbrev Its : C → Option X → Type 0
  Its c o = IfSome o (λ x. by x ≡ number c)

  find_above : (k : K) (xs : List X) → Above order by k xs → find k xs ≡ None
  find_above k [] all = refl
  find_above k (x ∷ xs) all = ap (λ (o : Ordering). here o x (find k xs)) (turned order total k (by x) all.0) ∙ find_above k xs all.1

  find_first : (c : C) (o : Option X) (xs : List X) → Its c o → Above order by (number c) xs → find (number c) (option_to_list o ++ xs) ≡ o
  find_first c None xs its all = find_above (number c) xs all
  find_first c (Some x) xs its all = ap (λ (r : Ordering). here r x (find (number c) xs)) (subst (λ (m : K). order m (number c) ≡ Equal) (sym its) (itself order total (number c)))

  find_rest : (c : C) (k : K) (o : Option X) (xs : List X) → Its c o → ¬ (number c ≡ k) → find k (option_to_list o ++ xs) ≡ find k xs
  find_rest c k None xs its unlike = refl
  find_rest c k (Some x) xs its unlike = go (order (by x) k) refl
    where
      go : (r : Ordering) → order (by x) k ≡ r → here r x (find k xs) ≡ find k xs
      go Less e = refl
      go Equal e = absurd (unlike (sym its ∙ exact (by x) k e))
      go Greater e = refl

  -- an item below all changes
  finds_below : (x : X) (cs : List C) (xs ys : List X) → Above order number (by x) cs → Above order by (by x) xs → Found cs xs ys → Found cs (x ∷ xs) (x ∷ ys)
  finds_below x cs xs ys below above found = record {
    made_at = all_to (λ c. (order (by x) (number c) ≡ Less) × (made c (find (number c) xs) ≡ Some (find (number c) ys))) (λ c. made c (find (number c) (x ∷ xs)) ≡ Some (find (number c) (x ∷ ys)))
        (λ c both. ap (λ (r : Ordering). made c (here r x (find (number c) xs))) both.0 ∙ both.1 ∙ ap (λ (r : Ordering). Some (here r x (find (number c) ys))) (sym both.0))
        cs (both_all (λ c. order (by x) (number c) ≡ Less) (λ c. made c (find (number c) xs) ≡ Some (find (number c) ys)) cs below found.made_at);
    others = λ k none. ap (here (order (by x) k) x) (found.others k none);
    above = λ k all below_k. (all.0, found.above k all.1 below_k);
    sorted = (found.above (by x) above below, found.sorted);
  }

  its_now : (c : C) (stood y : Option X) → Its c stood → made c stood ≡ Some y → Its c y
  its_now c stood None its makes = tt
  its_now c stood (Some y) its makes = keeps c stood y its makes

  above_behind : (k : K) (o : Option X) (xs : List X) → Above order by k (option_to_list o ++ xs) → Above order by k xs
  above_behind k None xs all = all
  above_behind k (Some x) xs all = all.1

  above_with : (c : C) (k : K) (o : Option X) (xs : List X) → Its c o → order k (number c) ≡ Less → Above order by k xs → Above order by k (option_to_list o ++ xs)
  above_with c k None xs its less all = all
  above_with c k (Some x) xs its less all = (subst (λ (m : K). order k m ≡ Less) (sym its) less, all)

  sorted_with : (c : C) (o : Option X) (xs : List X) → Its c o → Above order by (number c) xs → Sorted order by xs → Sorted order by (option_to_list o ++ xs)
  sorted_with c None xs its above sorted = sorted
  sorted_with c (Some x) xs its above sorted = (subst (λ (m : K). Above order by m xs) (sym its) above, sorted)

  -- the change at the first key
  finds_first : (c : C) (cs : List C) (stood y : Option X) (rest ys : List X) → Its c stood → made c stood ≡ Some y → Above order by (number c) rest → Above order number (number c) cs → Found cs rest ys
      → Found (c ∷ cs) (option_to_list stood ++ rest) (option_to_list y ++ ys)
  finds_first c cs stood y rest ys its makes above below found =
      let now = its_now c stood y its makes in
      let above_now = found.above (number c) above below in
      record {
        made_at = (
          ap (made c) (find_first c stood rest its above) ∙ makes ∙ ap (λ (o : Option X). Some o) (sym (find_first c y ys now above_now)),
          all_to (λ d. (order (number c) (number d) ≡ Less) × (made d (find (number d) rest) ≡ Some (find (number d) ys))) (λ d. made d (find (number d) (option_to_list stood ++ rest)) ≡ Some (find (number d) (option_to_list y ++ ys)))
              (λ d both. let unlike = differs order total (number c) (number d) both.0 in
              ap (made d) (find_rest c (number d) stood rest its unlike) ∙ both.1 ∙ ap (λ (o : Option X). Some o) (sym (find_rest c (number d) y ys now unlike)))
              cs (both_all (λ d. order (number c) (number d) ≡ Less) (λ d. made d (find (number d) rest) ≡ Some (find (number d) ys)) cs below found.made_at),
        );
        others = λ k none. find_rest c k y ys now none.0 ∙ found.others k none.1 ∙ sym (find_rest c k stood rest its none.0);
        above = λ k all below_k. above_with c k y ys now below_k.0 (found.above k (above_behind k stood rest all) below_k.1);
        sorted = sorted_with c y ys now above_now found.sorted;
      }

  alone : (rest : List X) (cs : List C) (o : Option (Option X))
      → (option_map (λ (h : List X × List X). h.0 ++ h.1) (option_map (λ y. (option_to_list y, rest)) o) >>= changed how cs) ≡ (o >>= λ y. changed how cs (option_to_list y ++ rest))
  alone rest cs None = refl
  alone rest cs (Some y) = refl

  first_made : (c : C) (cs : List C) (zs : List X) (stood : Option X) (rest : List X) → parted (λ x. order (by x) (number c)) zs ≡ ([], (stood, rest))
      → changed how (c ∷ cs) zs ≡ (made c stood >>= λ y. changed how cs (option_to_list y ++ rest))
  first_made c cs zs stood rest e =
      ap (λ (p : Parted X). option_map (λ (h : List X × List X). h.0 ++ h.1) (option_map (λ y. (p.0 ++ option_to_list y, p.1.1)) (made c p.1.0)) >>= changed how cs) e
      ∙ alone rest cs (made c stood)

  -- what is made there stays in front of the changes behind
  kept_first : (c : C) (cs : List C) (y : Option X) (rest ys : List X) → Its c y → Above order number (number c) cs → changed how cs (option_to_list y ++ rest) ≡ Some ys
      → (zs : List X) × (changed how cs rest ≡ Some zs) × (option_to_list y ++ zs ≡ ys)
  kept_first c cs None rest ys its below e = (ys, e, refl)
  kept_first c cs (Some x) rest ys its below e =
      go (changed how cs rest) refl (sym (stays order total by number made x cs rest (subst (λ (m : K). Above order number m cs) (sym its) below)) ∙ e)
    where
      go : (o : Option (List X)) → changed how cs rest ≡ o → option_map (λ l. x ∷ l) o ≡ Some ys → (zs : List X) × (changed how cs rest ≡ Some zs) × (x ∷ zs ≡ ys)
      go None is made = absurd cc
      go (Some zs) is made = (zs, is, cc)

  at_first : (c : C) (cs : List C) (stood : Option X) (rest ys : List X) → Its c stood → Above order by (number c) rest → Above order number (number c) cs
      → ((zs : List X) → changed how cs rest ≡ Some zs → Found cs rest zs) → (made c stood >>= λ y. changed how cs (option_to_list y ++ rest)) ≡ Some ys → Found (c ∷ cs) (option_to_list stood ++ rest) ys
  at_first c cs stood rest ys its above below next e = go (made c stood) refl e
    where
      go : (o : Option (Option X)) → made c stood ≡ o → (o >>= λ y. changed how cs (option_to_list y ++ rest)) ≡ Some ys → Found (c ∷ cs) (option_to_list stood ++ rest) ys
      go None is made_now = absurd cc
      go (Some y) is made_now =
          let kept = kept_first c cs y rest ys (its_now c stood y its is) below made_now in
          subst (λ (l : List X). Found (c ∷ cs) (option_to_list stood ++ rest) l) kept.2 (finds_first c cs stood y rest kept.0 its is above below (next kept.0 kept.1))

  finds_more : (c : C) (cs : List C) → Above order number (number c) cs → ((zs ys : List X) → Sorted order by zs → changed how cs zs ≡ Some ys → Found cs zs ys)
      → (xs ys : List X) → Sorted order by xs → changed how (c ∷ cs) xs ≡ Some ys → Found (c ∷ cs) xs ys
  finds_more c cs below next [] ys sorted e = at_first c cs None [] ys tt tt below (λ zs. next [] zs tt) (sym (first_made c cs [] None [] refl) ∙ e)
  finds_more c cs below next (x ∷ xs) ys sorted e = go (λ zs. finds_more c cs below next xs zs sorted.1) (order (by x) (number c)) refl
    where
      parts : (o : Ordering) → order (by x) (number c) ≡ o → parted (λ y. order (by y) (number c)) (x ∷ xs) ≡ part_before o x xs (parted (λ y. order (by y) (number c)) xs)
      parts o is = ap (λ (r : Ordering). part_before r x xs (parted (λ y. order (by y) (number c)) xs)) is

      passed : Above order number (by x) (c ∷ cs) → (o : Option (List X)) → ((zs : List X) → o ≡ Some zs → Found (c ∷ cs) xs zs) → option_map (λ l. x ∷ l) o ≡ Some ys → Found (c ∷ cs) (x ∷ xs) ys
      passed above None again is = absurd cc
      passed above (Some zs) again is = let same : x ∷ zs ≡ ys = cc in subst (λ (l : List X). Found (c ∷ cs) (x ∷ xs) l) same (finds_below x (c ∷ cs) xs zs above sorted.0 (again zs refl))

      go : ((zs : List X) → changed how (c ∷ cs) xs ≡ Some zs → Found (c ∷ cs) xs zs) → (o : Ordering) → order (by x) (number c) ≡ o → Found (c ∷ cs) (x ∷ xs) ys
      go again Less is =
          let above : Above order number (by x) (c ∷ cs) = (is, all_to (λ d. order (number c) (number d) ≡ Less) (λ d. order (by x) (number d) ≡ Less) (λ d less. total.trans (by x) (number c) (number d) is less) cs below) in
          passed above (changed how (c ∷ cs) xs) again (sym (stays order total by number made x (c ∷ cs) xs above) ∙ e)
      go again Equal is =
          let same = exact (by x) (number c) is in
          at_first c cs (Some x) xs ys same (subst (λ (m : K). Above order by m xs) same sorted.0) below (λ zs. next xs zs sorted.1) (sym (first_made c cs (x ∷ xs) (Some x) xs (parts Equal is)) ∙ e)
      go again Greater is =
          let less = turned_back order total (by x) (number c) is in
          let above : Above order by (number c) (x ∷ xs) = (less, all_to (λ y. order (by x) (by y) ≡ Less) (λ y. order (number c) (by y) ≡ Less) (λ y behind. total.trans (number c) (by x) (by y) less behind) xs sorted.0) in
          at_first c cs None (x ∷ xs) ys tt above below (λ zs. next (x ∷ xs) zs sorted) (sym (first_made c cs (x ∷ xs) None (x ∷ xs) (parts Greater is)) ∙ e)

  pub finds : (cs : List C) (xs ys : List X) → Sorted order number cs → Sorted order by xs → changed how cs xs ≡ Some ys → Found cs xs ys
  finds [] xs ys sorted_changes sorted e = let same : xs ≡ ys = cc in subst (λ (l : List X). Found [] xs l) same (record { made_at = tt; others = λ k none. refl; above = λ k all below. all; sorted = sorted })
  finds (c ∷ cs) xs ys sorted_changes sorted e = finds_more c cs sorted_changes.0 (λ zs ws its is. finds cs zs ws sorted_changes.1 its is) xs ys sorted e
