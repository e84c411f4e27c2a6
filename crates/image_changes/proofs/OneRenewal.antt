-- Items by numbers: of two lists there is one list of numbers that are gone, and one of changes that are needed.
use Rattle.std.proofs.Common.{◌≡◌, ◌∙◌, ℕ, Bool, true, false, List, [], ◌∷◌, Option, Some, None, refl, sym, ap, subst}
use Rattle.std.specs.Prelude.{◌&&◌, ◌||◌, not, nat_eq, map, if◌then◌else◌, IfSome}
use Rattle.std.specs.List.{AllByRecursion as AllAre, list_any}
use Rattle.std.specs.Ordering.{nat_cmp}
use Rattle.std.specs.declared.cmp.Ordering.{Ordering}
use Rattle.std.specs.declared.cmp.Ordering.TheVariants.{Less, Equal, Greater}
use Rattle.std.proofs.lemmas.Bool.{eq-eqb}
use Rattle.std.proofs.lemmas.Cmp.{nat_cmp_total}
use Rattle.std.proofs.lemmas.Map.Lookups.{exact_unsigned}
use Rattle.delta_form.specs.Applying.{◌>>=◌}
use Rattle.delta_form.specs.Changes.{by_number, changed}
use Rattle.delta_form.specs.After.{are_apart, gone, renewed}
use Rattle.delta_form.proofs.Orders.{all_to}
use Rattle.image_changes.specs.Least.{AllNeeded}
use Rattle.image_changes.proofs.Finding.{Finds, NoneAt, Sorted, at, both_all, finds, here}
use Rattle.image_changes.proofs.OneList.{Within, one_list}

-- ---- numbers apart

pub both_true : (a b : Bool) → (a && b) ≡ true → (a ≡ true) × (b ≡ true)
both_true true b e = (refl, e)
both_true false b e = absurd cc

module _ {C : Type 0} (number : C → ℕ) where
  not_among : (k : ℕ) (cs : List C) → not (list_any (nat_eq k) (map number cs)) ≡ true → NoneAt number k cs
  not_among k [] e = tt
  not_among k (c ∷ cs) e = go (not_among k cs) (nat_eq k (number c)) refl e
    where
      go : (not (list_any (nat_eq k) (map number cs)) ≡ true → NoneAt number k cs) → (b : Bool) → nat_eq k (number c) ≡ b → not (b || list_any (nat_eq k) (map number cs)) ≡ true → NoneAt number k (c ∷ cs)
      go rest true is e = absurd cc
      go rest false is e = (λ same. let yes : nat_eq k (number c) ≡ true = eq-eqb k (number c) (sym same) in let none : true ≡ false = sym yes ∙ is in absurd cc, rest e)

  apart_each : (ks : List ℕ) (cs : List C) → are_apart ks (map number cs) ≡ true → AllAre (λ k. NoneAt number k cs) ks
  apart_each [] cs e = tt
  apart_each (k ∷ ks) cs e = let both = both_true (not (list_any (nat_eq k) (map number cs))) (are_apart ks (map number cs)) e in (not_among k cs both.0, apart_each ks cs both.1)

  each_apart : (ks : List ℕ) (cs : List C) → AllAre (λ k. NoneAt number k cs) ks → AllAre (λ c. NoneAt (λ n. n) (number c) ks) cs
  each_apart ks [] all = tt
  each_apart ks (c ∷ cs) all = (
    all_to (λ k. NoneAt number k (c ∷ cs)) (λ k. ¬ (k ≡ number c)) (λ k none same. none.0 (sym same)) ks all,
    each_apart ks cs (all_to (λ k. NoneAt number k (c ∷ cs)) (λ k. NoneAt number k cs) (λ k none. none.1) ks all),
  )

-- ---- what the numbers that are gone, and the changes, tell of the lists before and now

module _ {C X : Type 0} (by : X → ℕ) (number : C → ℕ) (made : C → Option X → Option (Option X)) (shortest : C → X → Type 0) (before now : List X) where
  abbrev stood : ℕ → Option X
  stood k = at nat_cmp by k before

  abbrev stands : ℕ → Option X
  stands k = at nat_cmp by k now

  abbrev pub IsGone : ℕ → Type 0
  IsGone k = ¬ (stood k ≡ None) × (stands k ≡ None)

  abbrev Needs : C → X → Type 0
  Needs c x = ¬ (made c (Some x) ≡ Some (Some x)) × shortest c x

  abbrev pub IsWritten : C → Type 0
  IsWritten c = (made c (stood (number c)) ≡ Some (stands (number c))) × AllAre (λ x. by x ≡ number c → Needs c x) before

  abbrev pub Tells : List ℕ → List C → Type 0
  Tells closed written = AllAre IsGone closed × AllAre IsWritten written × ((k : ℕ) → NoneAt (λ n. n) k closed → NoneAt number k written → stands k ≡ stood k)

  -- one that is gone stood
  gone_stood : (k : ℕ) (o left : Option X) → gone k o ≡ Some left → ¬ (o ≡ None) × (left ≡ None)
  gone_stood k None left e = absurd cc
  gone_stood k (Some x) left e = (λ none. absurd cc, let is : None ≡ left = cc in sym is)

  gone_keeps : (k : ℕ) (o : Option X) (y : X) → IfSome o (λ x. by x ≡ k) → gone k o ≡ Some (Some y) → by y ≡ k
  gone_keeps k None y its e = absurd cc
  gone_keeps k (Some x) y its e = absurd cc

  module _ (keeps : (c : C) (o : Option X) (y : X) → IfSome o (λ x. by x ≡ number c) → made c o ≡ Some (Some y) → by y ≡ number c) where
    pub tells : (closed : List ℕ) (written : List C) → Sorted nat_cmp (λ n. n) closed → Sorted nat_cmp number written → Sorted nat_cmp by before
        → renewed by number (by_number by number made) closed written before ≡ Some now → AllNeeded by number made shortest before written → Tells closed written
    tells closed written closed_rise written_rise rise e needed = go (are_apart closed (map number written)) refl e
      where
        with_left : (left : List X) → changed (by_number by (λ n. n) gone) closed before ≡ Some left → changed (by_number by number made) written left ≡ Some now → AllAre (λ k. NoneAt number k written) closed → Tells closed written
        with_left left without made_now apart =
            let first : Finds nat_cmp by (λ n. n) gone closed before left = finds nat_cmp nat_cmp_total exact_unsigned by (λ n. n) gone gone_keeps closed before left closed_rise rise without in
            let second : Finds nat_cmp by number made written left now = finds nat_cmp nat_cmp_total exact_unsigned by number made keeps written left now written_rise first.sorted made_now in (
              all_to (λ k. NoneAt number k written × (gone k (stood k) ≡ Some (at nat_cmp by k left))) IsGone
                  (λ k both. let was = gone_stood k (stood k) (at nat_cmp by k left) both.1 in (was.0, second.others k both.0 ∙ was.1))
                  closed (both_all (λ k. NoneAt number k written) (λ k. gone k (stood k) ≡ Some (at nat_cmp by k left)) closed apart first.made_at),
              all_to (λ c. NoneAt (λ n. n) (number c) closed × ((made c (at nat_cmp by (number c) left) ≡ Some (stands (number c))) × AllAre (λ x. by x ≡ number c → Needs c x) before)) IsWritten
                  (λ c all. (ap (made c) (sym (first.others (number c) all.0)) ∙ all.1.0, all.1.1))
                  written (both_all (λ c. NoneAt (λ n. n) (number c) closed) (λ c. (made c (at nat_cmp by (number c) left) ≡ Some (stands (number c))) × AllAre (λ x. by x ≡ number c → Needs c x) before) written
                  (each_apart number closed written apart)
                  (both_all (λ c. made c (at nat_cmp by (number c) left) ≡ Some (stands (number c))) (λ c. AllAre (λ x. by x ≡ number c → Needs c x) before) written second.made_at needed)),
              λ k none_gone none_written. second.others k none_written ∙ first.others k none_gone,
            )

        step : (o : Option (List X)) → changed (by_number by (λ n. n) gone) closed before ≡ o → (o >>= changed (by_number by number made) written) ≡ Some now → AllAre (λ k. NoneAt number k written) closed → Tells closed written
        step None is made_now apart = absurd cc
        step (Some left) is made_now apart = with_left left is made_now apart

        go : (b : Bool) → are_apart closed (map number written) ≡ b
            → (if b then changed (by_number by (λ n. n) gone) closed before >>= changed (by_number by number made) written else None) ≡ Some now → Tells closed written
        go true is renew = step (changed (by_number by (λ n. n) gone) closed before) refl renew (apart_each number closed written is)
        go false is renew = absurd cc

  -- ---- there is one of them

  at_has : (P : X → Type 0) (k : ℕ) (xs : List X) (y : X) → at nat_cmp by k xs ≡ Some y → AllAre P xs → P y × (by y ≡ k)
  at_has P k [] y e all = absurd cc
  at_has P k (x ∷ xs) y e all = go (λ is. at_has P k xs y is all.1) (nat_cmp (by x) k) refl e
    where
      go : (at nat_cmp by k xs ≡ Some y → P y × (by y ≡ k)) → (o : Ordering) → nat_cmp (by x) k ≡ o → here o x (at nat_cmp by k xs) ≡ Some y → P y × (by y ≡ k)
      go rest Less is e = rest e
      go rest Equal is e = let same : x ≡ y = cc in (subst P same all.0, subst (λ (z : X). by z ≡ k) same (exact_unsigned (by x) k is))
      go rest Greater is e = rest e

  module _ (never : (c : C) (o : Option X) → ¬ (made c o ≡ Some None))
      (one_new : (c d : C) (y : X) → number c ≡ number d → made c None ≡ Some (Some y) → made d None ≡ Some (Some y) → c ≡ d)
      (one_changed : (c d : C) (x y : X) → number c ≡ number d → made c (Some x) ≡ Some (Some y) → made d (Some x) ≡ Some (Some y) → shortest c x → shortest d x → c ≡ d) where
    written_at : (c : C) (k : ℕ) → number c ≡ k → IsWritten c → made c (stood k) ≡ Some (stands k)
    written_at c k its is = subst (λ (m : ℕ). made c (stood m) ≡ Some (stands m)) its is.0

    gone_within : (closed other : List ℕ) (written others : List C) → Tells closed written → Tells other others → Within (λ n. n) closed other
    gone_within closed other written others tells too = λ k none.
        all_to IsGone (λ n. ¬ (n ≡ k))
        (λ n is same.
        let gone_k : IsGone k = subst IsGone same is in
        let unwritten : NoneAt number k others =
        all_to IsWritten (λ c. ¬ (number c ≡ k)) (λ c writes its. never c (stood k) (written_at c k its writes ∙ ap (λ (o : Option X). Some o) gone_k.1)) others too.1 in
        gone_k.0 (sym (too.2 k none unwritten) ∙ gone_k.1))
        closed tells.0

    written_within : (closed other : List ℕ) (written others : List C) → Tells closed written → Tells other others → Within number written others
    written_within closed other written others tells too = λ k none.
        all_to IsWritten (λ c. ¬ (number c ≡ k))
        (λ c writes its.
        let made_k = written_at c k its writes in
        let kept : NoneAt (λ n. n) k other =
        all_to IsGone (λ n. ¬ (n ≡ k)) (λ n is same. never c (stood k) (made_k ∙ ap (λ (o : Option X). Some o) (subst (λ (m : ℕ). stands m ≡ None) same is.1))) other too.0 in
        unchanged c k its writes.1 (stood k) refl (made_k ∙ ap (λ (o : Option X). Some o) (too.2 k kept none)))
        written tells.1
      where
        unchanged : (c : C) (k : ℕ) → number c ≡ k → AllAre (λ x. by x ≡ number c → Needs c x) before → (o : Option X) → stood k ≡ o → made c (stood k) ≡ Some (stood k) → ⊥
        unchanged c k its needs None is same = never c None (subst (λ (o : Option X). made c o ≡ Some o) is same)
        unchanged c k its needs (Some x) is same =
            let had = at_has (λ x. by x ≡ number c → Needs c x) k before x is needs in
            (had.0 (had.1 ∙ sym its)).0 (subst (λ (o : Option X). made c o ≡ Some o) is same)

    one_written : (c d : C) → number c ≡ number d → IsWritten c → IsWritten d → c ≡ d
    one_written c d same is too = go (stood (number c)) (stands (number c)) refl refl
      where
        makes : made c (stood (number c)) ≡ Some (stands (number c))
        makes = is.0

        makes_too : made d (stood (number c)) ≡ Some (stands (number c))
        makes_too = written_at d (number c) (sym same) too

        go : (o p : Option X) → stood (number c) ≡ o → stands (number c) ≡ p → c ≡ d
        go o None was now_is = absurd (never c (stood (number c)) (makes ∙ ap (λ (q : Option X). Some q) now_is))
        go None (Some y) was now_is =
            one_new c d y same (ap (made c) (sym was) ∙ makes ∙ ap (λ (q : Option X). Some q) now_is) (ap (made d) (sym was) ∙ makes_too ∙ ap (λ (q : Option X). Some q) now_is)
        go (Some x) (Some y) was now_is =
            let had = at_has (λ x. by x ≡ number c → Needs c x) (number c) before x was is.1 in
            let has = at_has (λ x. by x ≡ number d → Needs d x) (number c) before x was too.1 in
            one_changed c d x y same (ap (made c) (sym was) ∙ makes ∙ ap (λ (q : Option X). Some q) now_is) (ap (made d) (sym was) ∙ makes_too ∙ ap (λ (q : Option X). Some q) now_is)
            (had.0 had.1).1 (has.0 (has.1 ∙ same)).1

    pub one_renewal : (closed other : List ℕ) (written others : List C) → Sorted nat_cmp (λ n. n) closed → Sorted nat_cmp (λ n. n) other → Sorted nat_cmp number written → Sorted nat_cmp number others
        → Tells closed written → Tells other others → (closed ≡ other) × (written ≡ others)
    one_renewal closed other written others closed_rise other_rise written_rise others_rise tells too = (
      one_list nat_cmp nat_cmp_total exact_unsigned (λ n. n) IsGone (λ k m same is is_too. same) closed other closed_rise other_rise tells.0 too.0
          (gone_within closed other written others tells too) (gone_within other closed others written too tells),
      one_list nat_cmp nat_cmp_total exact_unsigned number IsWritten one_written written others written_rise others_rise tells.1 too.1
          (written_within closed other written others tells too) (written_within other closed others written too tells),
    )
