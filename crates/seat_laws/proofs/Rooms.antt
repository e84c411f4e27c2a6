-- Threads and the executors that they hold, through each change of the threads of a build.
use Rattle.std.proofs.Common.{arith, ◌≡◌, ◌<◌, ◌∙◌, ap, sym, subst, refl, inl, inr, ℕ, zero, suc, Bool, true, false, List, [], ◌∷◌, ◌++◌, map, length, append_assoc, Option, Some, None}
use Rattle.std.proofs.lemmas.List.{append-nil}
use Rattle.std.specs.Prelude.{nat_eq, drop, if◌then◌else◌}
use Rattle.std.proofs.lemmas.Bool.{eqb-true, eqb-false}
use Rattle.std.specs.List.{AllByRecursion as AllAre}
use Rattle.model_values.proofs.LaterLaws.{all_weaker}
use Rattle.model_values.proofs.CellGrowth.{all_append}
use Rattle.model_run.specs.declared.context.Context.{Context}
use Rattle.model_run.specs.declared.held.Held.{Held}
use Rattle.model_run.specs.declared.wait.Answer.TheVariants.{Begin}
use Rattle.model_run.specs.declared.wait.Wait.{Wait}
use Rattle.model_run.specs.declared.wait.Wait.TheVariants.{Ready}
use Rattle.model_run.specs.Fitting.{Distinct, Some_of, concat_map, granted_request}
use Rattle.model_run.proofs.RequestLaws.{some_all}
use Rattle.world_laws.proofs.Places.{others, some_front, all_others, some_others}
use Rattle.run_laws.specs.Soundness.{without_all}
use Rattle.seat_laws.specs.Seats.{Room, mine, stands_for, IsHeld, AroundIs, Holding}
use Rattle.seat_laws.proofs.Lists.{In, NotIn, Apart, Front, all_both, all_front, all_back, all_joined, all_mapped, in_either, in_front, not_in, distinct_front, distinct_back, distinct_apart, distinct_joined, fronts_differ, others_differ, others_apart, concat_append}
use Rattle.seat_laws.proofs.Executors.{held_kept_all, granted_held, granted_kept}

-- thread n waits for something else, and in another context
abbrev pub changing : ℕ → Context → Wait → Room → Room
changing n c w q = if nat_eq q.number n then record q { now = c; wait = w } else q

abbrev pub rewaiting : (Wait → Wait) → ℕ → Room → Room
rewaiting f n q = if nat_eq q.number n then record q { wait = f q.wait } else q

-- what is open around is in front of its own
abbrev pub IsSplit : Room → Type 0
IsSplit q = q.now.held ≡ q.around.held ++ mine q

-- a parent has a lower number, and is not thread n
abbrev pub IsBelow : ℕ → Room → Type 0
IsBelow n q = (m : ℕ) → q.parent ≡ Some m → (m < q.number) × (m ≡ n → ⊥)

pub drop_behind : (ns ms : List ℕ) → drop (length ns) (ns ++ ms) ≡ ms
drop_behind [] ms = refl
drop_behind (n ∷ ns) ms = drop_behind ns ms

pub drop_all : (ns : List ℕ) → drop (length ns) ns ≡ []
drop_all [] = refl
drop_all (n ∷ ns) = drop_all ns

apart_other : (xs ys : List ℕ) → AllAre (λ r. NotIn r ys) xs → AllAre (λ r. NotIn r xs) ys
apart_other xs [] h = tt
apart_other xs (y ∷ ys) h = (all_weaker _ _ (λ r none e. none.0 (sym e)) xs h, apart_other xs ys (all_weaker _ _ (λ r none. none.1) xs h))

-- where a list is in another, what the other has not it has not
none_swapped : (xs ys : List ℕ) → AllAre (λ a. In a xs → ⊥) ys → AllAre (λ r. NotIn r ys) xs
none_swapped [] ys h = tt
none_swapped (x ∷ xs) ys h = (not_in x ys (λ i. some_all (λ a. In a (x ∷ xs) → ⊥) (λ a. a ≡ x) ⊥ (λ a none e. none (inl (sym e))) ys h i), none_swapped xs ys (all_weaker _ _ (λ a none i. none (inr i)) ys h))

all_swapped : {A B : Type 0} (P : A → B → Type 0) (xs : List A) (ys : List B) → AllAre (λ y. AllAre (λ x. P x y) xs) ys → AllAre (λ x. AllAre (P x) ys) xs
all_swapped P [] ys h = tt
all_swapped P (x ∷ xs) ys h = (all_weaker _ _ (λ y k. k.0) ys h, all_swapped P xs ys (all_weaker _ _ (λ y k. k.1) ys h))

all_distinct : {A : Type 0} (f : A → List ℕ) (xs : List A) → Distinct (concat_map f xs) → AllAre (λ x. Distinct (f x)) xs
all_distinct f [] d = tt
all_distinct f (x ∷ xs) d = (distinct_front (f x) (concat_map f xs) d, all_distinct f xs (distinct_back (f x) (concat_map f xs) d))

held_both : (xs : List Held) (ns rest : List ℕ) → AllAre (IsHeld xs) ns → AllAre (λ r. NotIn r rest) ns → AllAre (IsHeld (without_all rest xs)) ns
held_both xs [] rest h k = tt
held_both xs (n ∷ ns) rest h k = (held_kept_all n rest k.0 xs h.0, held_both xs ns rest h.1 k.1)

all_any : (P : Room → Type 0) → ((p : Room) → P p) → (rs : List Room) → AllAre P rs
all_any P h [] = tt
all_any P h (p ∷ rs) = (h p, all_any P h rs)

parent_mapped : (h : Room → Room) (m : ℕ) (c : Context) (rs : List Room) → AllAre (λ p. p.number ≡ m → ((h p).number ≡ p.number) × ((h p).now ≡ p.now)) rs → Some_of (λ p. (p.number ≡ m) × (p.now ≡ c)) rs → Some_of (λ p. (p.number ≡ m) × (p.now ≡ c)) (map h rs)
parent_mapped h m c [] same is = absurd is
parent_mapped h m c (p ∷ rs) same (inl here) = inl ((same.0 here.0).0 ∙ here.0, (same.0 here.0).1 ∙ here.1)
parent_mapped h m c (p ∷ rs) same (inr later) = inr (parent_mapped h m c rs same.1 later)

-- what holds below every number holds
bounded : (Q : Room → Type 0) (rs : List Room) → ((k : ℕ) → AllAre (λ p. p.number < k → Q p) rs) → AllAre Q rs
bounded Q [] h = tt
bounded Q (p ∷ rs) h = ((h (suc p.number)).0 (omega arith), bounded Q rs (λ k. (h k).1))

-- where the contexts of parents stay, what is around their branches does
around_mapped : (h : Room → Room) (rs : List Room) (c : Context) (parent : Option ℕ) → AllAre (λ p. (m : ℕ) → parent ≡ Some m → p.number ≡ m → ((h p).number ≡ p.number) × ((h p).now ≡ p.now)) rs → AroundIs rs c parent → AroundIs (map h rs) c parent
around_mapped h rs c None same is = is
around_mapped h rs c (Some m) same is = parent_mapped h m c rs (all_weaker _ _ (λ p k. k m refl) rs same) is

-- The turn of thread n, in which it may give back executors of its own requests alone.
module _ (n : ℕ) (xs : List Held) (rs : List Room) (split : AllAre IsSplit rs) (below : AllAre (IsBelow n) rs) (h : Holding xs rs) where
  -- what thread n stands for no other does, nor is it open around any
  module _ (a : ℕ) (its : Some_of (λ t. (t.number ≡ n) × In a (stands_for xs t)) rs) where
    apart : AllAre (λ q. (q.number ≡ n → ⊥) → In a (stands_for xs q) → ⊥) rs
    apart = others_apart (λ (q : Room). q.number) (stands_for xs) n a rs h.differ its

    record Known (k : ℕ) (p : Room) : Type 0 where
      its_own : (p.number ≡ n → ⊥) → In a (stands_for xs p) → ⊥
      split_so : IsSplit p
      around : p.number < k → In a p.around.held → ⊥

    parent_free : (k m : ℕ) (c : Context) → m < k → (m ≡ n → ⊥) → In a c.held → (p : Room) → Known k p → (p.number ≡ m) × (p.now ≡ c) → ⊥
    parent_free k m c lt other i p known is =
        elim (in_either a p.around.held (mine p) (subst (In a) (ap (λ (x : Context). x.held) (sym is.1) ∙ known.split_so) i)) [
          | inl j ↦ known.around (omega (arith, is.0, lt)) j
          | inr j ↦ known.its_own (λ e. other (sym is.0 ∙ e)) (in_front a (mine p) (granted_request xs p.wait) j)
        ]

    one_free : (k : ℕ) → AllAre (Known k) rs → (q : Room) → AroundIs rs q.around q.parent → IsBelow n q → (o : Option ℕ) → q.parent ≡ o → q.number < suc k → In a q.around.held → ⊥
    one_free k all q is low None e lt i = subst (In a) (subst (AroundIs rs q.around) e is).0 i
    one_free k all q is low (Some m) e lt i = some_all (Known k) (λ p. (p.number ≡ m) × (p.now ≡ q.around)) ⊥ (parent_free k m q.around (omega (arith, (low m e).0, lt)) (low m e).1 i) rs all (subst (AroundIs rs q.around) e is)

    knowing : (k : ℕ) → AllAre (λ p. p.number < k → In a p.around.held → ⊥) rs → AllAre (Known k) rs
    knowing k free = all_both (λ p. (p.number ≡ n → ⊥) → In a (stands_for xs p) → ⊥) (λ p. IsSplit p × (p.number < k → In a p.around.held → ⊥)) (Known k) (λ p x y. record { its_own = x; split_so = y.0; around = y.1 }) rs apart
        (all_both IsSplit (λ p. p.number < k → In a p.around.held → ⊥) (λ p. IsSplit p × (p.number < k → In a p.around.held → ⊥)) (λ p x y. (x, y)) rs split free)

    free_below : (k : ℕ) → AllAre (λ p. p.number < k → In a p.around.held → ⊥) rs
    free_below zero = all_any (λ p. p.number < zero → In a p.around.held → ⊥) (λ p lt. absurd (omega (arith, lt))) rs
    free_below (suc k) = all_both (λ q. AroundIs rs q.around q.parent) (IsBelow n) (λ p. p.number < suc k → In a p.around.held → ⊥) (λ q is low lt i. one_free k (knowing k (free_below k)) q is low q.parent refl lt i) rs h.around below

    -- around none of them
    around_free : AllAre (λ p. In a p.around.held → ⊥) rs
    around_free = bounded (λ p. In a p.around.held → ⊥) rs free_below

    now_free : AllAre (λ p. (p.number ≡ n → ⊥) → In a p.now.held → ⊥) rs
    now_free = all_both (λ p. In a p.around.held → ⊥) (λ p. IsSplit p × ((p.number ≡ n → ⊥) → In a (stands_for xs p) → ⊥)) (λ p. (p.number ≡ n → ⊥) → In a p.now.held → ⊥)
        (λ p free y other i. elim (in_either a p.around.held (mine p) (subst (In a) y.0 i)) [ inl j ↦ free j | inr j ↦ y.1 other (in_front a (mine p) (granted_request xs p.wait) j) ]) rs around_free
        (all_both IsSplit (λ p. (p.number ≡ n → ⊥) → In a (stands_for xs p) → ⊥) (λ p. IsSplit p × ((p.number ≡ n → ⊥) → In a (stands_for xs p) → ⊥)) (λ p x y. (x, y)) rs split apart)

  -- Thread n has given these back, that it stood for.
  module _ (rest : List ℕ) (its : AllAre (λ a. Some_of (λ t. (t.number ≡ n) × In a (stands_for xs t)) rs) rest) where
    rest_around : AllAre (λ p. AllAre (λ r. NotIn r rest) p.around.held) rs
    rest_around = all_weaker _ _ (λ p none. none_swapped p.around.held rest none) rs (all_swapped (λ p a. In a p.around.held → ⊥) rs rest (all_weaker _ _ (λ a i. around_free a i) rest its))

    rest_now : AllAre (λ p. (p.number ≡ n → ⊥) → AllAre (λ r. NotIn r rest) p.now.held) rs
    rest_now = all_weaker _ _ (λ p none other. none_swapped p.now.held rest (all_weaker _ _ (λ a k. k other) rest none)) rs (all_swapped (λ p a. (p.number ≡ n → ⊥) → In a p.now.held → ⊥) rs rest (all_weaker _ _ (λ a i. now_free a i) rest its))

    rest_granted : AllAre (λ p. (p.number ≡ n → ⊥) → AllAre (λ r. NotIn r rest) (granted_request xs p.wait)) rs
    rest_granted = all_weaker _ _ (λ p none other. all_back (λ r. NotIn r rest) (mine p) (granted_request xs p.wait) (none_swapped (stands_for xs p) rest (all_weaker _ _ (λ a k. k other) rest none))) rs
        (all_swapped (λ p a. (p.number ≡ n → ⊥) → In a (stands_for xs p) → ⊥) rs rest (all_weaker _ _ (λ a i. apart a i) rest its))

    -- what is held by the others still is
    others_held : AllAre (λ p. (p.number ≡ n → ⊥) → AllAre (IsHeld (without_all rest xs)) p.now.held) rs
    others_held = all_both (λ p. AllAre (IsHeld xs) p.now.held) (λ p. (p.number ≡ n → ⊥) → AllAre (λ r. NotIn r rest) p.now.held) (λ p. (p.number ≡ n → ⊥) → AllAre (IsHeld (without_all rest xs)) p.now.held) (λ p x y other. held_both xs p.now.held rest x (y other)) rs h.held rest_now

    same_front : (p : Room) → ((p.number ≡ n → ⊥) → AllAre (λ r. NotIn r rest) (granted_request xs p.wait)) → (p.number ≡ n → ⊥) → Front (stands_for (without_all rest xs) p) (stands_for xs p)
    same_front p none other = ([], sym (append-nil (stands_for (without_all rest xs) p) ∙ ap (λ ns. mine p ++ ns) (granted_kept rest xs p.wait (none other))))

    -- Thread n waits again, in another context, with these requests left of its own.
    module _ (c : Context) (w : Wait) (own more : List ℕ) (facts : AllAre (λ q. q.number ≡ n → (c.held ≡ q.around.held ++ own) × (stands_for xs q ≡ (own ++ rest) ++ more)) rs) (empty : (ys : List Held) → granted_request ys w ≡ []) where
      record Fact (q : Room) : Type 0 where
        its_fact : q.number ≡ n → (c.held ≡ q.around.held ++ own) × (stands_for xs q ≡ (own ++ rest) ++ more)
        split_so : IsSplit q
        held_so : AllAre (IsHeld xs) q.now.held
        free_around : AllAre (λ r. NotIn r rest) q.around.held
        free_granted : (q.number ≡ n → ⊥) → AllAre (λ r. NotIn r rest) (granted_request xs q.wait)
        distinct : Distinct (stands_for xs q)
        other_held : (q.number ≡ n → ⊥) → AllAre (IsHeld (without_all rest xs)) q.now.held
        around_so : AroundIs rs q.around q.parent
        below_so : IsBelow n q

      zipped : (qs : List Room) → AllAre (λ q. q.number ≡ n → (c.held ≡ q.around.held ++ own) × (stands_for xs q ≡ (own ++ rest) ++ more)) qs → AllAre IsSplit qs → AllAre (λ q. AllAre (IsHeld xs) q.now.held) qs → AllAre (λ p. AllAre (λ r. NotIn r rest) p.around.held) qs
          → AllAre (λ p. (p.number ≡ n → ⊥) → AllAre (λ r. NotIn r rest) (granted_request xs p.wait)) qs → AllAre (λ q. Distinct (stands_for xs q)) qs → AllAre (λ p. (p.number ≡ n → ⊥) → AllAre (IsHeld (without_all rest xs)) p.now.held) qs → AllAre (λ q. AroundIs rs q.around q.parent) qs → AllAre (IsBelow n) qs → AllAre Fact qs
      zipped [] f1 f2 f3 f4 f5 f6 f7 f8 f9 = tt
      zipped (q ∷ qs) f1 f2 f3 f4 f5 f6 f7 f8 f9 =
          (record { its_fact = f1.0; split_so = f2.0; held_so = f3.0; free_around = f4.0; free_granted = f5.0; distinct = f6.0; other_held = f7.0; around_so = f8.0; below_so = f9.0 }, zipped qs f1.1 f2.1 f3.1 f4.1 f5.1 f6.1 f7.1 f8.1 f9.1)

      all_facts : AllAre Fact rs
      all_facts = zipped rs facts split h.held rest_around rest_granted (all_distinct (stands_for xs) rs h.differ) others_held h.around below

      -- its own that are left
      own_held : (q : Room) → Fact q → q.number ≡ n → AllAre (IsHeld (without_all rest xs)) c.held
      own_held q f at =
          let all : AllAre (IsHeld xs) (q.around.held ++ mine q) = subst (AllAre (IsHeld xs)) f.split_so f.held_so in
          let is : (c.held ≡ q.around.held ++ own) × (stands_for xs q ≡ (own ++ rest) ++ more) = f.its_fact at in
          let left : AllAre (IsHeld xs) own = all_front (IsHeld xs) own rest (all_front (IsHeld xs) (own ++ rest) more (subst (AllAre (IsHeld xs)) is.1 (all_joined (IsHeld xs) (mine q) (granted_request xs q.wait) (all_back (IsHeld xs) q.around.held (mine q) all) (granted_held xs q.wait)))) in
          subst (AllAre (IsHeld (without_all rest xs))) (sym is.0)
          (all_joined (IsHeld (without_all rest xs)) q.around.held own (held_both xs q.around.held rest (all_front (IsHeld xs) q.around.held (mine q) all) f.free_around)
          (held_both xs own rest left (distinct_apart own rest (distinct_front (own ++ rest) more (subst Distinct is.1 f.distinct)))))

      changed_held : (q : Room) → Fact q → AllAre (IsHeld (without_all rest xs)) (changing n c w q).now.held
      changed_held q f = one (nat_eq q.number n) refl
        where
          one : (b : Bool) → nat_eq q.number n ≡ b → AllAre (IsHeld (without_all rest xs)) (if b then record q { now = c; wait = w } else q).now.held
          one true e = own_held q f (eqb-true _ _ e)
          one false e = f.other_held (eqb-false _ _ e)

      changed_front : (q : Room) → Fact q → Front (stands_for (without_all rest xs) (changing n c w q)) (stands_for xs q)
      changed_front q f = one (nat_eq q.number n) refl
        where
          one : (b : Bool) → nat_eq q.number n ≡ b → Front (stands_for (without_all rest xs) (if b then record q { now = c; wait = w } else q)) (stands_for xs q)
          one true e =
              let is : (c.held ≡ q.around.held ++ own) × (stands_for xs q ≡ (own ++ rest) ++ more) = f.its_fact (eqb-true _ _ e) in
              let left : drop (length q.around.held) c.held ++ granted_request (without_all rest xs) w ≡ own = ap (λ ns. drop (length q.around.held) c.held ++ ns) (empty (without_all rest xs)) ∙ append-nil (drop (length q.around.held) c.held) ∙ ap (drop (length q.around.held)) is.0 ∙ drop_behind q.around.held own in
              (rest ++ more, is.1 ∙ append_assoc own rest more ∙ ap (λ ns. ns ++ (rest ++ more)) (sym left))
          one false e = same_front q f.free_granted (eqb-false _ _ e)

      unchanged : (p : Room) → (p.number ≡ n → ⊥) → ((changing n c w p).number ≡ p.number) × ((changing n c w p).now ≡ p.now)
      unchanged p other = one (nat_eq p.number n) refl
        where
          one : (b : Bool) → nat_eq p.number n ≡ b → ((if b then record p { now = c; wait = w } else p).number ≡ p.number) × ((if b then record p { now = c; wait = w } else p).now ≡ p.now)
          one true e = absurd (other (eqb-true _ _ e))
          one false e = (refl, refl)

      changed_around : (q : Room) → Fact q → AroundIs (map (changing n c w) rs) (changing n c w q).around (changing n c w q).parent
      changed_around q f = one (nat_eq q.number n) (around_mapped (changing n c w) rs q.around q.parent (all_any (λ p. (m : ℕ) → q.parent ≡ Some m → p.number ≡ m → ((changing n c w p).number ≡ p.number) × ((changing n c w p).now ≡ p.now)) (λ p m e at. unchanged p (λ same. (f.below_so m e).1 (sym at ∙ same))) rs) f.around_so)
        where
          one : (b : Bool) → AroundIs (map (changing n c w) rs) q.around q.parent → AroundIs (map (changing n c w) rs) (if b then record q { now = c; wait = w } else q).around (if b then record q { now = c; wait = w } else q).parent
          one true h = h
          one false h = h

      pub changed_holds : Holding (without_all rest xs) (map (changing n c w) rs)
      changed_holds = record {
        around = all_mapped (λ q. AroundIs (map (changing n c w) rs) q.around q.parent) (changing n c w) rs (all_weaker _ _ changed_around rs all_facts);
        held = all_mapped (λ q. AllAre (IsHeld (without_all rest xs)) q.now.held) (changing n c w) rs (all_weaker _ _ changed_held rs all_facts);
        differ = fronts_differ (stands_for xs) (stands_for (without_all rest xs)) (changing n c w) rs (all_weaker _ _ changed_front rs all_facts) h.differ;
      }

    -- Thread n has ended, and its parent has what it ended with.
    module _ (f : Wait → Wait) (m : ℕ) (same : (ys : List Held) (w : Wait) → granted_request ys (f w) ≡ granted_request ys w) where
      abbrev left : List Room
      left = others (λ q. q.number) n rs

      kept_now : (p : Room) → ((rewaiting f m p).number ≡ p.number) × ((rewaiting f m p).now ≡ p.now)
      kept_now p = one (nat_eq p.number m)
        where
          one : (b : Bool) → ((if b then record p { wait = f p.wait } else p).number ≡ p.number) × ((if b then record p { wait = f p.wait } else p).now ≡ p.now)
          one true = (refl, refl)
          one false = (refl, refl)

      left_parent : (c : Context) (o : Option ℕ) → ((k : ℕ) → o ≡ Some k → k ≡ n → ⊥) → AroundIs rs c o → AroundIs left c o
      left_parent c None low is = is
      left_parent c (Some k) low is = some_others (λ (q : Room). q.number) (λ p. (p.number ≡ k) × (p.now ≡ c)) n rs (all_any (λ p. p.number ≡ n → (p.number ≡ k) × (p.now ≡ c) → ⊥) (λ p at x. low k refl (sym x.0 ∙ at)) rs) is

      left_around : (q : Room) → AroundIs rs q.around q.parent → IsBelow n q → AroundIs (map (rewaiting f m) left) (rewaiting f m q).around (rewaiting f m q).parent
      left_around q is low = one (nat_eq q.number m) (around_mapped (rewaiting f m) left q.around q.parent (all_any (λ p. (k : ℕ) → q.parent ≡ Some k → p.number ≡ k → ((rewaiting f m p).number ≡ p.number) × ((rewaiting f m p).now ≡ p.now)) (λ p k e at. kept_now p) left) (left_parent q.around q.parent (λ k e. (low k e).1) is))
        where
          one : (b : Bool) → AroundIs (map (rewaiting f m) left) q.around q.parent → AroundIs (map (rewaiting f m) left) (if b then record q { wait = f q.wait } else q).around (if b then record q { wait = f q.wait } else q).parent
          one true h = h
          one false h = h

      left_held : (q : Room) → AllAre (IsHeld (without_all rest xs)) q.now.held → AllAre (IsHeld (without_all rest xs)) (rewaiting f m q).now.held
      left_held q all = subst (λ (c : Context). AllAre (IsHeld (without_all rest xs)) c.held) (sym (kept_now q).1) all

      left_front : (q : Room) → (q.number ≡ n → ⊥) → ((q.number ≡ n → ⊥) → AllAre (λ r. NotIn r rest) (granted_request xs q.wait)) → Front (stands_for (without_all rest xs) (rewaiting f m q)) (stands_for xs q)
      left_front q other none = one (nat_eq q.number m) (same_front q none other)
        where
          one : (b : Bool) → Front (stands_for (without_all rest xs) q) (stands_for xs q) → Front (stands_for (without_all rest xs) (if b then record q { wait = f q.wait } else q)) (stands_for xs q)
          one true fr = (fr.0, fr.1 ∙ ap (λ ns. (mine q ++ ns) ++ fr.0) (sym (same (without_all rest xs) q.wait)))
          one false fr = fr

      pub ended_holds : Holding (without_all rest xs) (map (rewaiting f m) (others (λ q. q.number) n rs))
      ended_holds = record {
        around = all_mapped (λ q. AroundIs (map (rewaiting f m) left) q.around q.parent) (rewaiting f m) left (all_others (λ (q : Room). q.number) (λ q. AroundIs rs q.around q.parent × IsBelow n q) (λ q. AroundIs (map (rewaiting f m) left) (rewaiting f m q).around (rewaiting f m q).parent) n (λ q other x. left_around q x.0 x.1) rs
            (all_both (λ q. AroundIs rs q.around q.parent) (IsBelow n) (λ q. AroundIs rs q.around q.parent × IsBelow n q) (λ q x y. (x, y)) rs h.around below));
        held = all_mapped (λ q. AllAre (IsHeld (without_all rest xs)) q.now.held) (rewaiting f m) left (all_others (λ (q : Room). q.number) (λ p. (p.number ≡ n → ⊥) → AllAre (IsHeld (without_all rest xs)) p.now.held) (λ q. AllAre (IsHeld (without_all rest xs)) (rewaiting f m q).now.held) n (λ q other x. left_held q (x other)) rs others_held);
        differ = fronts_differ (stands_for xs) (stands_for (without_all rest xs)) (rewaiting f m) left (all_others (λ (q : Room). q.number) (λ p. (p.number ≡ n → ⊥) → AllAre (λ r. NotIn r rest) (granted_request xs p.wait)) (λ q. Front (stands_for (without_all rest xs) (rewaiting f m q)) (stands_for xs q)) n (λ q other x. left_front q other x) rs rest_granted)
            (others_differ (λ (q : Room). q.number) (stands_for xs) n rs h.differ);
      }

-- New branches begin in the context of their parent.
pub record IsNew (n : ℕ) (c : Context) (q : Room) : Type 0 where
  pub parent : q.parent ≡ Some n
  pub around : q.around ≡ c
  pub now : q.now ≡ c
  pub wait : q.wait ≡ Ready Begin

new_stands : (n : ℕ) (c : Context) (xs : List Held) (qs : List Room) → AllAre (IsNew n c) qs → concat_map (stands_for xs) qs ≡ []
new_stands n c xs [] h = refl
new_stands n c xs (q ∷ qs) h =
    ap (λ ns. ns ++ concat_map (stands_for xs) qs) (ap (λ w. mine q ++ granted_request xs w) (h.0).wait ∙ append-nil (mine q) ∙ ap (λ (x : Context). drop (length x.held) q.now.held) (h.0).around ∙ ap (λ (x : Context). drop (length c.held) x.held) (h.0).now ∙ drop_all c.held) ∙ new_stands n c xs qs h.1

around_front : (rs qs : List Room) (c : Context) (o : Option ℕ) → AroundIs rs c o → AroundIs (rs ++ qs) c o
around_front rs qs c None is = is
around_front rs qs c (Some m) is = some_front (λ p. (p.number ≡ m) × (p.now ≡ c)) rs qs is

pub forked_holds : (n : ℕ) (c : Context) (xs : List Held) (rs qs : List Room) → Holding xs rs → Some_of (λ p. (p.number ≡ n) × (p.now ≡ c)) rs → AllAre (IsHeld xs) c.held → AllAre (IsNew n c) qs → Holding xs (rs ++ qs)
forked_holds n c xs rs qs h there all new = record {
  around = all_append (λ q. AroundIs (rs ++ qs) q.around q.parent) rs qs (all_weaker _ _ (λ q is. around_front rs qs q.around q.parent is) rs h.around)
      (all_weaker _ _ (λ q x. subst (AroundIs (rs ++ qs) q.around) (sym x.parent) (some_front (λ p. (p.number ≡ n) × (p.now ≡ q.around)) rs qs (subst (λ y. Some_of (λ p. (p.number ≡ n) × (p.now ≡ y)) rs) (sym x.around) there))) qs new);
  held = all_append (λ q. AllAre (IsHeld xs) q.now.held) rs qs h.held (all_weaker _ _ (λ q x. subst (λ (y : Context). AllAre (IsHeld xs) y.held) (sym x.now) all) qs new);
  differ = subst Distinct (sym (concat_append (stands_for xs) rs qs ∙ ap (λ ns. concat_map (stands_for xs) rs ++ ns) (new_stands n c xs qs new) ∙ append-nil (concat_map (stands_for xs) rs))) h.differ;
}

-- A thread that waits is given these, which nobody stands for.
module _ (xs ys : List Held) (w : Wait) (k : ℕ) (new : List ℕ) (is : granted_request ys w ≡ new) where
  plain_stands : (q : Room) → ((zs : List Held) → granted_request zs q.wait ≡ []) → stands_for ys q ≡ stands_for xs q
  plain_stands q none = ap (λ ns. mine q ++ ns) (none ys ∙ sym (none xs))

  new_here : (q : Room) → ((zs : List Held) → granted_request zs q.wait ≡ []) → mine q ++ granted_request ys w ≡ stands_for xs q ++ new
  new_here q none = ap (λ ns. mine q ++ ns) is ∙ ap (λ ns. ns ++ new) (sym (ap (λ ns. mine q ++ ns) (none xs) ∙ append-nil (mine q)))

  given_all : (P : ℕ → Type 0) → AllAre P new → (rs : List Room) → AllAre (λ q. (zs : List Held) → granted_request zs q.wait ≡ []) rs → AllAre P (concat_map (stands_for xs) rs) → AllAre P (concat_map (stands_for ys) (map (rewaiting (λ v. w) k) rs))
  given_all P news [] none all = tt
  given_all P news (q ∷ rs) none all = all_joined P (stands_for ys (rewaiting (λ v. w) k q)) (concat_map (stands_for ys) (map (rewaiting (λ v. w) k) rs)) (one (nat_eq q.number k)) (given_all P news rs none.1 (all_back P (stands_for xs q) (concat_map (stands_for xs) rs) all))
    where
      one : (b : Bool) → AllAre P (stands_for ys (if b then record q { wait = w } else q))
      one true = subst (AllAre P) (sym (new_here q none.0)) (all_joined P (stands_for xs q) new (all_front P (stands_for xs q) (concat_map (stands_for xs) rs) all) news)
      one false = subst (AllAre P) (sym (plain_stands q none.0)) (all_front P (stands_for xs q) (concat_map (stands_for xs) rs) all)

  -- where none has this number
  given_none : (rs : List Room) → AllAre (λ q. (zs : List Held) → granted_request zs q.wait ≡ []) rs → NotIn k (map (λ q. q.number) rs) → concat_map (stands_for ys) (map (rewaiting (λ v. w) k) rs) ≡ concat_map (stands_for xs) rs
  given_none [] none other = refl
  given_none (q ∷ rs) none other = one (nat_eq q.number k) refl ∙ ap (λ ns. stands_for xs q ++ ns) (given_none rs none.1 other.1)
    where
      one : (b : Bool) → nat_eq q.number k ≡ b → stands_for ys (if b then record q { wait = w } else q) ++ concat_map (stands_for ys) (map (rewaiting (λ v. w) k) rs) ≡ stands_for xs q ++ concat_map (stands_for ys) (map (rewaiting (λ v. w) k) rs)
      one true e = absurd (other.0 (sym (eqb-true _ _ e)))
      one false e = ap (λ ns. ns ++ concat_map (stands_for ys) (map (rewaiting (λ v. w) k) rs)) (plain_stands q none.0)

  given_differ : Distinct new → (rs : List Room) → AllAre (λ q. (zs : List Held) → granted_request zs q.wait ≡ []) rs → Distinct (map (λ q. q.number) rs) → AllAre (λ r. NotIn r new) (concat_map (stands_for xs) rs) → Distinct (concat_map (stands_for xs) rs) → Distinct (concat_map (stands_for ys) (map (rewaiting (λ v. w) k) rs))
  given_differ news [] none numbers fresh d = tt
  given_differ news (q ∷ rs) none numbers fresh d = one (nat_eq q.number k) refl (given_differ news rs none.1 numbers.1 (all_back (λ r. NotIn r new) (stands_for xs q) (concat_map (stands_for xs) rs) fresh) (distinct_back (stands_for xs q) (concat_map (stands_for xs) rs) d))
    where
      one : (b : Bool) → nat_eq q.number k ≡ b → Distinct (concat_map (stands_for ys) (map (rewaiting (λ v. w) k) rs)) → Distinct (stands_for ys (if b then record q { wait = w } else q) ++ concat_map (stands_for ys) (map (rewaiting (λ v. w) k) rs))
      one false e more = distinct_joined (stands_for ys q) _ (subst Distinct (sym (plain_stands q none.0)) (distinct_front (stands_for xs q) (concat_map (stands_for xs) rs) d)) more
          (subst (λ ns. Apart ns (concat_map (stands_for ys) (map (rewaiting (λ v. w) k) rs))) (sym (plain_stands q none.0))
          (all_both (λ r. NotIn r new) (λ r. NotIn r (concat_map (stands_for xs) rs)) (λ r. NotIn r (concat_map (stands_for ys) (map (rewaiting (λ v. w) k) rs))) (λ r x y. given_all (λ a. r ≡ a → ⊥) x rs none.1 y) (stands_for xs q) (all_front (λ r. NotIn r new) (stands_for xs q) (concat_map (stands_for xs) rs) fresh) (distinct_apart (stands_for xs q) (concat_map (stands_for xs) rs) d)))
      one true e more =
          subst (λ ns. Distinct (ns ++ concat_map (stands_for ys) (map (rewaiting (λ v. w) k) rs))) (sym (new_here q none.0)) (subst (λ ns. Distinct ((stands_for xs q ++ new) ++ ns)) (sym (given_none rs none.1 (subst (λ j. NotIn j (map (λ p. p.number) rs)) (eqb-true _ _ e) numbers.0)))
          (distinct_joined (stands_for xs q ++ new) (concat_map (stands_for xs) rs) (distinct_joined (stands_for xs q) new (distinct_front (stands_for xs q) (concat_map (stands_for xs) rs) d) news (all_front (λ r. NotIn r new) (stands_for xs q) (concat_map (stands_for xs) rs) fresh)) (distinct_back (stands_for xs q) (concat_map (stands_for xs) rs) d)
          (all_joined (λ r. NotIn r (concat_map (stands_for xs) rs)) (stands_for xs q) new (distinct_apart (stands_for xs q) (concat_map (stands_for xs) rs) d) (apart_other (concat_map (stands_for xs) rs) new (all_back (λ r. NotIn r new) (stands_for xs q) (concat_map (stands_for xs) rs) fresh)))))

  fresh_rooms : ((ns : List ℕ) → AllAre (IsHeld xs) ns → AllAre (λ r. NotIn r new) ns) → (rs : List Room) → AllAre (λ q. (zs : List Held) → granted_request zs q.wait ≡ []) rs → AllAre IsSplit rs → AllAre (λ q. AllAre (IsHeld xs) q.now.held) rs → AllAre (λ r. NotIn r new) (concat_map (stands_for xs) rs)
  fresh_rooms up [] none split held = tt
  fresh_rooms up (q ∷ rs) none split held =
      all_joined (λ r. NotIn r new) (stands_for xs q) (concat_map (stands_for xs) rs)
      (up (stands_for xs q) (subst (AllAre (IsHeld xs)) (sym (ap (λ ns. mine q ++ ns) (none.0 xs) ∙ append-nil (mine q))) (all_back (IsHeld xs) q.around.held (mine q) (subst (AllAre (IsHeld xs)) split.0 held.0)))) (fresh_rooms up rs none.1 split.1 held.1)

  pub given_holds : Distinct new → (rs : List Room) → AllAre (λ q. (zs : List Held) → granted_request zs q.wait ≡ []) rs → Distinct (map (λ q. q.number) rs) → ((r : ℕ) → IsHeld xs r → IsHeld ys r) → AllAre (λ a. IsHeld xs a → ⊥) new → AllAre IsSplit rs → Holding xs rs → Holding ys (map (rewaiting (λ v. w) k) rs)
  given_holds news rs none numbers keeps free split h = record {
    around = all_mapped (λ q. AroundIs (map (rewaiting (λ v. w) k) rs) q.around q.parent) (rewaiting (λ v. w) k) rs (all_weaker _ _ (λ q x. one q (nat_eq q.number k) (around_mapped (rewaiting (λ v. w) k) rs q.around q.parent (all_any (λ p. (m : ℕ) → q.parent ≡ Some m → p.number ≡ m → ((rewaiting (λ v. w) k p).number ≡ p.number) × ((rewaiting (λ v. w) k p).now ≡ p.now)) (λ p m e at. kept p (nat_eq p.number k)) rs) x)) rs h.around);
    held = all_mapped (λ q. AllAre (IsHeld ys) q.now.held) (rewaiting (λ v. w) k) rs (all_weaker _ _ (λ q x. subst (λ (c : Context). AllAre (IsHeld ys) c.held) (sym (kept q (nat_eq q.number k)).1) (all_weaker _ _ keeps q.now.held x)) rs h.held);
    differ = given_differ news rs none numbers (fresh_rooms its_fresh rs none split h.held) h.differ;
  }
    where
      kept : (p : Room) (b : Bool) → ((if b then record p { wait = w } else p).number ≡ p.number) × ((if b then record p { wait = w } else p).now ≡ p.now)
      kept p true = (refl, refl)
      kept p false = (refl, refl)

      one : (q : Room) (b : Bool) → AroundIs (map (rewaiting (λ v. w) k) rs) q.around q.parent → AroundIs (map (rewaiting (λ v. w) k) rs) (if b then record q { wait = w } else q).around (if b then record q { wait = w } else q).parent
      one q true h = h
      one q false h = h

      its_fresh : (ns : List ℕ) → AllAre (IsHeld xs) ns → AllAre (λ r. NotIn r new) ns
      its_fresh ns all = all_weaker _ _ (λ r held. all_weaker _ _ (λ a none e. none (subst (IsHeld xs) e held)) new free) ns all
