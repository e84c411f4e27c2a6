-- Items that are taken from the front of a list, up to a key.
use Rattle.std.proofs.Common.{◌≡◌, ◌∙◌, ◌<◌, Bool, true, false, List, [], ◌∷◌, ◌++◌, length, Option, Some, None, if◌then◌else◌, refl, sym, ap, append_assoc, arith}
use Rattle.std.specs.Option.{option_map, option_to_list}
use Rattle.std.specs.Ordering.{is_eq, is_lt}
use Rattle.std.specs.declared.cmp.Ordering.{Ordering}
use Rattle.std.specs.declared.cmp.Ordering.TheVariants.{Less, Equal, Greater}
use Rattle.std.proofs.lemmas.List.{append-nil}
use Rattle.delta_form.specs.Changes.{Changing, Parted, first_if, merged, part_before, parted}

pub is_less : (o : Ordering) → is_lt o ≡ true → o ≡ Less
is_less Less e = refl
is_less Equal e = absurd cc
is_less Greater e = absurd cc

module _ {X : Type 0} where
  abbrev taken : Option X → List X → Option X × List X
  taken o xs = (o, xs)

  -- what was taken where the test passed, and where it did not
  picked : (test : X → Bool) (xs ys : List X) (x : X) → taken (Some x) ys ≡ first_if test xs → (xs ≡ x ∷ ys) × (test x ≡ true)
  picked test [] ys x e = let none : Some x ≡ None = ap (λ (p : Option X × List X). p.0) e in absurd cc
  picked test (z ∷ zs) ys x e = go (test z) refl e
    where
      go : (b : Bool) → test z ≡ b → taken (Some x) ys ≡ (if b then taken (Some z) zs else taken None (z ∷ zs)) → (z ∷ zs ≡ x ∷ ys) × (test x ≡ true)
      go true is h =
          let some : Some x ≡ Some z = ap (λ (p : Option X × List X). p.0) h in
          let one : x ≡ z = cc in
          let others : ys ≡ zs = ap (λ (p : Option X × List X). p.1) h in
          (cc, ap test one ∙ is)
      go false is h = let none : Some x ≡ None = ap (λ (p : Option X × List X). p.0) h in absurd cc

  module _ (compare : X → Ordering) where
    below_front : (xs ys : List X) (x : X) → taken (Some x) ys ≡ first_if (λ y. is_lt (compare y)) xs → parted compare xs ≡ (x ∷ (parted compare ys).0, (parted compare ys).1)
    below_front xs ys x e =
        let p = picked (λ y. is_lt (compare y)) xs ys x e in
        ap (parted compare) p.0 ∙ ap (λ (o : Ordering). part_before o x ys (parted compare ys)) (is_less (compare x) p.1)

    pub passed_more : (done more front xs ys : List X) (x : X) → more ≡ done ++ x ∷ [] → taken (Some x) ys ≡ first_if (λ y. is_lt (compare y)) xs → done ++ (parted compare xs).0 ≡ front → more ++ (parted compare ys).0 ≡ front
    passed_more done more front xs ys x pushed e is =
        ap (λ (l : List X). l ++ (parted compare ys).0) pushed ∙ append_assoc done (x ∷ []) (parted compare ys).0
        ∙ ap (λ (l : List X). done ++ l) (sym (ap (λ (p : Parted X). p.0) (below_front xs ys x e))) ∙ is

    pub left_same : (xs ys : List X) (x : X) → taken (Some x) ys ≡ first_if (λ y. is_lt (compare y)) xs → (parted compare xs).1 ≡ (parted compare ys).1
    left_same xs ys x e = ap (λ (p : Parted X). p.1) (below_front xs ys x e)

    pub fewer : (xs ys : List X) (x : X) → taken (Some x) ys ≡ first_if (λ y. is_lt (compare y)) xs → length ys < length xs
    fewer xs ys x e = let n : length xs ≡ length (x ∷ ys) = ap length (picked (λ y. is_lt (compare y)) xs ys x e).0 in omega (arith, n)

    -- no item in front is below
    none_below : (o : Ordering) (x : X) (xs : List X) (p : Parted X) → is_lt o ≡ false → (part_before o x xs p).0 ≡ []
    none_below Less x xs p e = absurd cc
    none_below Equal x xs p e = refl
    none_below Greater x xs p e = refl

    stop : (xs ys : List X) → taken None ys ≡ first_if (λ y. is_lt (compare y)) xs → (ys ≡ xs) × ((parted compare xs).0 ≡ [])
    stop [] ys e = (ap (λ (p : Option X × List X). p.1) e, refl)
    stop (z ∷ zs) ys e = go (is_lt (compare z)) refl e
      where
        go : (b : Bool) → is_lt (compare z) ≡ b → taken None ys ≡ (if b then taken (Some z) zs else taken None (z ∷ zs)) → (ys ≡ z ∷ zs) × ((parted compare (z ∷ zs)).0 ≡ [])
        go true is h = let some : None ≡ Some z = ap (λ (p : Option X × List X). p.0) h in absurd cc
        go false is h = (ap (λ (p : Option X × List X). p.1) h, none_below (compare z) z zs (parted compare zs) is)

    pub stopped : (done front xs ys : List X) → taken None ys ≡ first_if (λ y. is_lt (compare y)) xs → done ++ (parted compare xs).0 ≡ front → done ≡ front
    stopped done front xs ys e is = sym (append-nil done) ∙ ap (λ (l : List X). done ++ l) (sym (stop xs ys e).1) ∙ is

    pub stopped_left : (xs ys : List X) (q : Option X × List X) → taken None ys ≡ first_if (λ y. is_lt (compare y)) xs → q ≡ (parted compare xs).1 → parted compare ys ≡ ([], q)
    stopped_left xs ys q e is =
        let s = stop xs ys e in
        ap (parted compare) s.0 ∙ ap (λ (l : List X). (l, (parted compare xs).1)) s.1 ∙ ap (λ (r : Option X × List X). ([], r)) (sym is)

    -- then the one with the key is in front, or none is there
    pub first_at : (xs : List X) → (parted compare xs).0 ≡ [] → first_if (λ y. is_eq (compare y)) xs ≡ (parted compare xs).1
    first_at [] e = refl
    first_at (z ∷ zs) e = go (compare z) refl e
      where
        go : (o : Ordering) → compare z ≡ o → (part_before o z zs (parted compare zs)).0 ≡ [] → first_if (λ y. is_eq (compare y)) (z ∷ zs) ≡ (part_before (compare z) z zs (parted compare zs)).1
        go Less is h = absurd cc
        go Equal is h = rw is refl
        go Greater is h = rw is refl

abbrev pub beside : {X : Type 0} → List X → List X → List X × List X
beside xs ys = (xs, ys)

-- what was done before, the items in front, and what the change makes
pub joined : {X : Type 0} (done front behind : List X) (o : Option (Option X)) → option_map (λ h. beside (done ++ h.0) h.1) (option_map (λ y. beside (front ++ option_to_list y) behind) o) ≡ option_map (λ y. beside ((done ++ front) ++ option_to_list y) behind) o
joined done front behind None = refl
joined done front behind (Some y) = ap (λ l. Some (beside l behind)) (sym (append_assoc done front (option_to_list y)))

pub merged_at : {C X : Type 0} (how : Changing C X) (c : C) (done old now rest behind : List X) (stood : Option X)
    → now ≡ done ++ (parted (λ x. how.compare x c) old).0
    → parted (λ x. how.compare x c) rest ≡ ([], (parted (λ x. how.compare x c) old).1)
    → taken stood behind ≡ first_if (λ x. is_eq (how.compare x c)) rest
    → merged how c (done, old) ≡ option_map (λ y. beside (now ++ option_to_list y) behind) (how.made c stood)
merged_at {C} {X} how c done old now rest behind stood front left at =
    let p = parted (λ x. how.compare x c) old in
    let is : taken stood behind ≡ p.1 = at ∙ first_at (λ x. how.compare x c) rest (ap (λ (q : Parted X). q.0) left) ∙ ap (λ (q : Parted X). q.1) left in
    let one : stood ≡ p.1.0 = ap (λ (q : Option X × List X). q.0) is in
    let others : behind ≡ p.1.1 = ap (λ (q : Option X × List X). q.1) is in
    rw (one, others, front) (joined done p.0 p.1.1 (how.made c p.1.0))
