-- One walk over a list and its changes, by rising keys, makes what the changes make one after the other.
use Rattle.std.proofs.Common.{◌≡◌, ◌∙◌, List, [], ◌∷◌, ◌++◌, Option, Some, None, refl, sym, ap, subst, append_assoc}
use Rattle.std.specs.List.{AllByRecursion as AllAre}
use Rattle.std.specs.Option.{ForSome, option_map, option_to_list}
use Rattle.std.specs.declared.cmp.Ordering.{Ordering}
use Rattle.std.specs.declared.cmp.Ordering.TheVariants.{Less, Equal, Greater}
use Rattle.delta_form.specs.Applying.{◌>>=◌, Refuses, in_turn}
use Rattle.delta_form.specs.Changes.{Changing, EachBelow, Keyed, Parted, changed, halves, merged, part_before, parted}
use Rattle.delta_form.specs.declared.refusal.DeltaRefusal.{DeltaRefusal}
use Rattle.delta_form.proofs.Answering.{refuses_map}
use Rattle.delta_form.proofs.Fronts.{beside, joined}
use Rattle.delta_form.proofs.Orders.{above, all_to, others_rise}

all_behind : {A : Type 0} (P : A → Type 0) (xs ys : List A) → AllAre P xs → AllAre P ys → AllAre P (xs ++ ys)
all_behind P [] ys all also = also
all_behind P (x ∷ xs) ys all also = (all.0, all_behind P xs ys all.1 also)

-- ---- what a key parts

module _ {X : Type 0} (compare : X → Ordering) where
  below_key : (xs : List X) → AllAre (λ x. compare x ≡ Less) (parted compare xs).0
  below_key [] = tt
  below_key (x ∷ xs) = go (compare x) refl (below_key xs)
    where
      go : (o : Ordering) → compare x ≡ o → AllAre (λ y. compare y ≡ Less) (parted compare xs).0 → AllAre (λ y. compare y ≡ Less) (part_before o x xs (parted compare xs)).0
      go Less is others = (is, others)
      go Equal is others = tt
      go Greater is others = tt

  at_key : (xs : List X) → ForSome (parted compare xs).1.0 (λ x. compare x ≡ Equal)
  at_key [] = λ y e. absurd cc
  at_key (x ∷ xs) = go (compare x) refl (at_key xs)
    where
      go : (o : Ordering) → compare x ≡ o → ForSome (parted compare xs).1.0 (λ y. compare y ≡ Equal) → ForSome (part_before o x xs (parted compare xs)).1.0 (λ y. compare y ≡ Equal)
      go Less is others = others
      go Equal is others = λ y e. let same : y ≡ x = cc in ap compare same ∙ is
      go Greater is others = λ y e. absurd cc

  parted_behind : (front rest : List X) → AllAre (λ x. compare x ≡ Less) front → parted compare (front ++ rest) ≡ (front ++ (parted compare rest).0, (parted compare rest).1)
  parted_behind [] rest all = refl
  parted_behind (x ∷ front) rest all =
      ap (λ (o : Ordering). part_before o x (front ++ rest) (parted compare (front ++ rest))) all.0
      ∙ ap (λ (p : Parted X). part_before Less x (front ++ rest) p) (parted_behind front rest all.1)

twice : {X : Type 0} (done front : List X) (o : Option (List X)) → option_map (λ l. (done ++ front) ++ l) o ≡ option_map (λ l. done ++ l) (option_map (λ l. front ++ l) o)
twice done front None = refl
twice done front (Some l) = ap (λ k. Some k) (append_assoc done front l)

unchanged : {X : Type 0} (o : Option (List X)) → option_map (λ l. [] ++ l) o ≡ o
unchanged None = refl
unchanged (Some l) = refl

-- ---- changes behind a front that is below their keys

module _ {C X : Type 0} (how : Changing C X) where
  halves_behind : (front rest : List X) (d : C) → AllAre (λ x. how.compare x d ≡ Less) front → halves how d (front ++ rest) ≡ option_map (λ h. beside (front ++ h.0) h.1) (halves how d rest)
  halves_behind front rest d all =
      let q = parted (λ x. how.compare x d) rest in
      rw (parted_behind (λ x. how.compare x d) front rest all) (sym (joined front q.0 q.1.1 (how.made d q.1.0)))

  turn : (ds : List C) (front : List X) → ((l : List X) → changed how ds (front ++ l) ≡ option_map (λ k. front ++ k) (changed how ds l)) → (o : Option (List X × List X))
      → (option_map (λ h. h.0 ++ h.1) (option_map (λ h. beside (front ++ h.0) h.1) o) >>= changed how ds) ≡ option_map (λ k. front ++ k) (option_map (λ h. h.0 ++ h.1) o >>= changed how ds)
  turn ds front next None = refl
  turn ds front next (Some h) = ap (changed how ds) (append_assoc front h.0 h.1) ∙ next (h.0 ++ h.1)

  behind : (front : List X) (ds : List C) → AllAre (λ d. AllAre (λ x. how.compare x d ≡ Less) front) ds → (rest : List X) → changed how ds (front ++ rest) ≡ option_map (λ k. front ++ k) (changed how ds rest)
  behind front [] all rest = refl
  behind front (d ∷ ds) all rest =
      ap (λ (o : Option (List X × List X)). option_map (λ h. h.0 ++ h.1) o >>= changed how ds) (halves_behind front rest d all.0)
      ∙ turn ds front (behind front ds all.1) (halves how d rest)

  -- ---- what a change has made is below the later keys
  listed : (d : C) (y : Option X) → ForSome y (λ x. how.compare x d ≡ Less) → AllAre (λ x. how.compare x d ≡ Less) (option_to_list y)
  listed d None some = tt
  listed d (Some x) some = (some x refl, tt)

  below_later : Keyed how → (c d : C) (xs : List X) (h : List X × List X) → halves how c xs ≡ Some h → how.order c d ≡ Less → AllAre (λ x. how.compare x d ≡ Less) h.0
  below_later keyed c d xs h e less = go (how.made c (parted (λ x. how.compare x c) xs).1.0) refl e
    where
      go : (o : Option (Option X)) → how.made c (parted (λ x. how.compare x c) xs).1.0 ≡ o → option_map (λ y. beside ((parted (λ x. how.compare x c) xs).0 ++ option_to_list y) (parted (λ x. how.compare x c) xs).1.1) o ≡ Some h → AllAre (λ x. how.compare x d ≡ Less) h.0
      go None is k = absurd cc
      go (Some y) is k =
          let p = parted (λ x. how.compare x c) xs in
          let front = all_to (λ x. how.compare x c ≡ Less) (λ x. how.compare x d ≡ Less) (λ x lower. keyed.front x c d lower less) p.0 (below_key (λ x. how.compare x c) xs) in
          let made : ForSome y (λ x. how.compare x d ≡ Less) = λ x some. keyed.keeps c d p.1.0 x (at_key (λ z. how.compare z c) xs) (is ∙ ap (λ (o : Option X). Some o) some) less in
          let all : AllAre (λ x. how.compare x d ≡ Less) (p.0 ++ option_to_list y) = all_behind (λ x. how.compare x d ≡ Less) p.0 (option_to_list y) front (listed d y made) in
          let both : beside (p.0 ++ option_to_list y) p.1.1 ≡ h = cc in
          subst (λ (q : List X × List X). AllAre (λ x. how.compare x d ≡ Less) q.0) both all

  walk : Keyed how → (cs : List C) (done xs : List X) → EachBelow how.order cs → option_map (λ h. h.0 ++ h.1) (in_turn (merged how) cs (done, xs)) ≡ option_map (λ l. done ++ l) (changed how cs xs)
  walk keyed [] done xs each = refl
  walk keyed (c ∷ cs) done xs each = go (λ front rest. walk keyed cs front rest (others_rise how.order c cs each)) (halves how c xs) refl
    where
      go : ((front rest : List X) → option_map (λ h. h.0 ++ h.1) (in_turn (merged how) cs (front, rest)) ≡ option_map (λ l. front ++ l) (changed how cs rest))
          → (o : Option (List X × List X)) → halves how c xs ≡ o
          → option_map (λ h. h.0 ++ h.1) (option_map (λ h. beside (done ++ h.0) h.1) o >>= in_turn (merged how) cs) ≡ option_map (λ l. done ++ l) (option_map (λ h. h.0 ++ h.1) o >>= changed how cs)
      go next None is = refl
      go next (Some h) is =
          let lower = all_to (λ d. how.order c d ≡ Less) (λ d. AllAre (λ x. how.compare x d ≡ Less) h.0) (λ d less. below_later keyed c d xs h is less) cs (above how.order keyed.chain c cs each) in
          next (done ++ h.0) h.1 ∙ twice done h.0 (changed how cs h.1) ∙ ap (option_map (λ l. done ++ l)) (sym (behind h.0 cs lower h.1))

  walked : Keyed how → (cs : List C) (done xs : List X) → done ≡ [] → EachBelow how.order cs → option_map (λ h. h.0 ++ h.1) (in_turn (merged how) cs (done, xs)) ≡ changed how cs xs
  walked keyed cs done xs none each = walk keyed cs done xs each ∙ ap (λ (front : List X). option_map (λ l. front ++ l) (changed how cs xs)) none ∙ unchanged (changed how cs xs)

  pub walk_ends : Keyed how → (cs : List C) (done items xs front rest all : List X) → done ≡ [] → items ≡ xs → EachBelow how.order cs → in_turn (merged how) cs (done, items) ≡ Some (front, rest) → all ≡ front ++ rest → changed how cs xs ≡ Some all
  walk_ends keyed cs done items xs front rest all none same each ends is =
      ap (changed how cs) (sym same) ∙ sym (walked keyed cs done items none each) ∙ ap (option_map (λ h. h.0 ++ h.1)) ends ∙ ap (λ (l : List X). Some l) (sym is)

  pub walk_refused : Keyed how → (cs : List C) (done items xs : List X) (e : DeltaRefusal) → done ≡ [] → items ≡ xs → EachBelow how.order cs → Refuses e (in_turn (merged how) cs (done, items)) → Refuses e (changed how cs xs)
  walk_refused keyed cs done items xs e none same each refused =
      subst (Refuses e) (walked keyed cs done items none each ∙ ap (changed how cs) same) (refuses_map e (λ h. h.0 ++ h.1) (in_turn (merged how) cs (done, items)) refused)
