-- Passes of seats, one after the other.
use Rattle.std.proofs.Common.{◌≡◌, ◌≤◌, ◌<◌, ◌+◌, ◌-◌, ◌*◌, ◌^◌, ◌∙◌, ℕ, suc, List, [], ◌∷◌, ◌++◌, length, take, drop, map, Option, Some, None, Ok, Err, refl, sym, ap, subst, length-append, length-set, append_assoc, append-nil, true, zero, arith}
use Rattle.std.specs.Prelude.{slice_index_or, slice_set, MatchOption}
use Rattle.std.specs.List.{AllZip, AllByRecursion as AllAre}
use Rattle.std.proofs.Math.Nat.{pow-suc}
use Rattle.std.proofs.Math.Pow.{pow_mono}
use Rattle.std.proofs.Math.ListN.{get_or-map}
use Rattle.std.proofs.Math.Seq.{map-set_same}
use Rattle.std.proofs.lemmas.List.{take_more, take_more_set, drop_more, drop-set-lt, take_all, map-append, map-set, length-map}
use Rattle.program_lock.specs.declared.program.Memory.{Memory}
use Rattle.program_lock.specs.declared.program.PassOf.{PassOf}
use Rattle.program_lock.specs.declared.view.Known.{Known}
use Rattle.program_lock.specs.History.{has, AreApart, NoneUnder}
use Rattle.program_lock.specs.Passes.{known}
use Rattle.program_lock.specs.Calls.{Splits, Joins}
use Rattle.program_lock.specs.Views.{all_parts}
use Rattle.program_lock.proofs.HistoryLemmas.{none_among, none_append}
use Rattle.program_lock.proofs.NumberLemmas.{among_left, among_right, off}
use Rattle.program_lock.proofs.PartLemmas.{kept_back_half, parts-split, parts-split_kept, parts-join}
use Rattle.member_turns.proofs.PartLemmas.{all_append}
use Rattle.member_turns.proofs.TrailLemmas.{none_of}
use Rattle.member_turns.specs.Lower.locked_build.declared.ask.Entry.{Entry}
use Rattle.member_turns.specs.Seats.{SeesMore, IsNew, WithinIf, AreAllApart, all_numbers, numbers_of, parts_of, total, given, HandsOut, TakesIn}

-- a split leaves enough for xs many splits xs are left
pub enough_more : (n i p : ℕ) → i < n → 2 ^ (n - i) ≤ p → (1 < p) × (2 * 2 ^ (n - (i + 1)) ≤ p)
enough_more n i p less enough =
    let next : n - i ≡ suc (n - (i + 1)) = omega arith in
    let twice : 2 ^ (n - i) ≡ 2 ^ (n - (i + 1)) * 2 = ap (λ (x : ℕ). 2 ^ x) next ∙ pow-suc 2 (n - (i + 1)) in
    let one : 2 ^ 0 ≤ 2 ^ (n - (i + 1)) = pow_mono {i = 0} {j = n - (i + 1)} (omega arith) in
    (omega arith, omega arith)

module _ {B : Type 0} where
  abbrev sees_same : (v : Known Entry B) → SeesMore v v
  sees_same v = record { base_stays = refl; more = []; begins = append-nil v.seen; others = tt }

  abbrev sees_further : (v w u : Known Entry B) → SeesMore v w → SeesMore w u → w.numbers ≡ v.numbers → SeesMore v u
  sees_further v w u g h same = record {
    base_stays = h.base_stays ∙ g.base_stays;
    more = g.more ++ h.more;
    begins = sym (append_assoc v.seen g.more h.more) ∙ ap (λ (l : List (ℕ × Entry)). l ++ h.more) g.begins ∙ h.begins;
    others = none_append v.numbers g.more h.more g.others (subst (λ (l : List ℕ). NoneUnder l h.more) same h.others);
  }

  abbrev sees_split : (w u new : Known Entry B) → Splits w u new → SeesMore w u
  sees_split w u new s = record {
    base_stays = ap (λ (k : Known Entry B). k.base) s.now;
    more = s.begins.0;
    begins = s.begins.1 ∙ sym (ap (λ (k : Known Entry B). k.seen) s.now);
    others = s.begins.2;
  }

  -- a pass stays new while the other goes on
  new_further : (v w u p : Known Entry B) → SeesMore w u → IsNew v w p → IsNew v u p
  new_further v w u p goes new = record {
    numbers = new.numbers;
    front = new.front;
    goes = new.goes;
    rest = new.rest ++ goes.more;
    begins = sym (append_assoc p.seen new.rest goes.more) ∙ ap (λ (l : List (ℕ × Entry)). l ++ goes.more) new.begins ∙ goes.begins;
    none = new.none;
  }

  -- the pass that is split off
  new_here : (v w u p : Known Entry B) → SeesMore v w → Splits w u p → IsNew v u p
  new_here v w u p goes s =
      let numbers : p.numbers ≡ s.number ∷ [] = ap (λ (k : Known Entry B). k.numbers) s.made in
      let seen : p.seen ≡ s.log = ap (λ (k : Known Entry B). k.seen) s.made in
      record {
        numbers = numbers ∙ ap (λ (m : ℕ). m ∷ []) (sym (ap (λ (k : Known Entry B). k.number) s.made));
        front = goes.more ++ s.begins.0;
        goes = sym (append_assoc v.seen goes.more s.begins.0) ∙ ap (λ (l : List (ℕ × Entry)). l ++ s.begins.0) goes.begins ∙ s.begins.1 ∙ sym seen;
        rest = [];
        begins = append-nil p.seen ∙ seen ∙ sym (ap (λ (k : Known Entry B). k.seen) s.now);
        none = none_of p.numbers p.seen s.none_yet;
      }

module _ {S B : Type 0} where
  total-append : (xs ys : List (Option (PassOf S Entry B))) → total (xs ++ ys) ≡ total xs + total ys
  total-append [] ys = omega arith
  total-append (x ∷ xs) ys = let rest = total-append xs ys in omega arith

  -- one pass more
  given_more : (passes : List (PassOf S Entry B)) (p : PassOf S Entry B) (old : List (Option (PassOf S Entry B))) (i : ℕ) → length passes ≡ i → i < length old → slice_set (given passes old) i (Some p) ≡ given (passes ++ p ∷ []) old
  given_more [] p [] i is less = absurd (omega arith)
  given_more [] p (o ∷ old) i is less = ap (λ (k : ℕ). slice_set (o ∷ old) k (Some p)) (sym is)
  given_more (q ∷ qs) p [] i is less = absurd (omega arith)
  given_more (q ∷ qs) p (o ∷ old) i is less =
      ap (λ (k : ℕ). slice_set (Some q ∷ given qs old) k (Some p)) (sym is) ∙ ap (λ (l : List (Option (PassOf S Entry B))). Some q ∷ l) (given_more qs p old (length qs) refl (omega arith))

  -- Handing out, up to this index.
  pub record OutSoFar (old items : List (Option (PassOf S Entry B))) (i : ℕ) (v w : Known Entry B) : Type 0 where
    pub goes : SeesMore v w
    pub numbers : w.numbers ≡ v.numbers
    pub passes : List (PassOf S Entry B)
    pub count : length passes ≡ i
    pub out : items ≡ given passes old
    pub fresh : AllAre (λ (p : PassOf S Entry B). IsNew v w (known p)) passes
    pub parts : w.parts + total (map (λ (p : PassOf S Entry B). Some p) passes) ≡ v.parts
    pub enough : 2 ^ (length old - i) ≤ w.parts

  all_further : (v w u : Known Entry B) → SeesMore w u → (ps : List (PassOf S Entry B)) → AllAre (λ (p : PassOf S Entry B). IsNew v w (known p)) ps → AllAre (λ (p : PassOf S Entry B). IsNew v u (known p)) ps
  all_further v w u goes [] all = tt
  all_further v w u goes (p ∷ ps) all = (new_further v w u (known p) goes all.0, all_further v w u goes ps all.1)

  module _ (old : List (Option (PassOf S Entry B))) (v : Known Entry B) where
    pub none_out : 2 ^ length old ≤ v.parts → OutSoFar old old 0 v v
    none_out enough = record { goes = sees_same v; numbers = refl; passes = []; count = refl; out = refl; fresh = tt; parts = omega arith; enough = subst (λ (n : ℕ). 2 ^ n ≤ v.parts) (omega arith) enough }

    pub one_out : (items : List (Option (PassOf S Entry B))) (i : ℕ) (w u : Known Entry B) (p : PassOf S Entry B) → i < length old → Splits w u (known p)
        → OutSoFar old items i v w → OutSoFar old (slice_set items i (Some p)) (i + 1) v u
    one_out items i w u p inside s o =
        let e = enough_more (length old) i w.parts inside o.enough in
        let one : 2 ^ 0 ≤ 2 ^ (length old - (i + 1)) = pow_mono {i = 0} {j = length old - (i + 1)} (omega arith) in
        let half = kept_back_half w.parts (2 ^ (length old - (i + 1))) e.1 one in
        let kept = parts-split_kept w u (known p) s in
        let both = parts-split w u (known p) s e.0 in
        let more = total-append (map (λ (q : PassOf S Entry B). Some q) o.passes) (Some p ∷ []) in
        let had = o.parts in
        let here : SeesMore w u = sees_split w u (known p) s in
        record {
          goes = sees_further v w u o.goes here o.numbers;
          numbers = ap (λ (k : Known Entry B). k.numbers) s.now ∙ o.numbers;
          passes = o.passes ++ p ∷ [];
          count = let c = o.count in grind (arith, length-append);
          out = ap (λ (l : List (Option (PassOf S Entry B))). slice_set l i (Some p)) o.out ∙ given_more o.passes p old i o.count inside;
          fresh = all_append (λ (q : PassOf S Entry B). IsNew v u (known q)) o.passes (p ∷ []) (all_further v w u here o.passes o.fresh) (new_here v w u (known p) o.goes s, tt);
          parts = subst (λ (l : List (Option (PassOf S Entry B))). u.parts + total l ≡ v.parts) (sym (map-append (λ (q : PassOf S Entry B). Some q) o.passes (p ∷ []))) (omega arith);
          enough = subst (λ (n : ℕ). 2 ^ (length old - (i + 1)) ≤ n) (sym kept) half;
        }

    pub all_out : (items : List (Option (PassOf S Entry B))) (i : ℕ) (w : Known Entry B) → i ≡ length old → OutSoFar old items i v w → HandsOut old items v w (Ok tt)
    all_out items i w is o = record { goes = o.goes; numbers = o.numbers; passes = o.passes; out = o.out; few = let c = o.count in omega arith; all = o.count ∙ is; fresh = o.fresh; parts = o.parts }

    pub some_out : (items : List (Option (PassOf S Entry B))) (i : ℕ) (w u : Known Entry B) (memory : Memory) → i ≤ length old → u ≡ w → OutSoFar old items i v w → HandsOut old items v u (Err memory)
    some_out items i w u memory within same o = subst (λ (k : Known Entry B). HandsOut old items v k (Err memory)) (sym same)
        (record { goes = o.goes; numbers = o.numbers; passes = o.passes; out = o.out; few = let c = o.count in omega arith; all = tt; fresh = o.fresh; parts = o.parts })

  -- Taking in, up to this index.
  pub record InSoFar (old items : List (Option (PassOf S Entry B))) (i : ℕ) (v w : Known Entry B) : Type 0 where
    pub goes : SeesMore v w
    pub left : drop i items ≡ drop i old
    pub long : length items ≡ length old
    pub numbers : w.numbers ≡ v.numbers ++ all_numbers (take i old)
    pub within : AllAre (WithinIf w) (take i old)
    pub apart : AreAllApart v.numbers (take i old)
    pub parts : w.parts ≡ v.parts + total (take i old)

  first_same : (a b : Option (PassOf S Entry B)) (xs ys : List (Option (PassOf S Entry B))) → a ∷ xs ≡ b ∷ ys → a ≡ b
  first_same a b xs ys e = cc

  rest_same : (a b : Option (PassOf S Entry B)) (xs ys : List (Option (PassOf S Entry B))) → a ∷ xs ≡ b ∷ ys → xs ≡ ys
  rest_same a b xs ys e = cc

  all_numbers-append : (xs ys : List (Option (PassOf S Entry B))) → all_numbers (xs ++ ys) ≡ all_numbers xs ++ all_numbers ys
  all_numbers-append [] ys = refl
  all_numbers-append (x ∷ xs) ys = ap (λ (l : List ℕ). numbers_of x ++ l) (all_numbers-append xs ys) ∙ sym (append_assoc (numbers_of x) (all_numbers xs) (all_numbers ys))

  -- one more, which is apart from those before it
  apart_more : (ns : List ℕ) (xs : List (Option (PassOf S Entry B))) (o : Option (PassOf S Entry B)) → AreAllApart ns xs → AreApart (ns ++ all_numbers xs) (numbers_of o) → AreAllApart ns (xs ++ o ∷ [])
  apart_more ns [] o all one = (subst (λ (l : List ℕ). AreApart l (numbers_of o)) (append-nil ns) one, tt)
  apart_more ns (x ∷ xs) o all one = (all.0, apart_more (ns ++ numbers_of x) xs o all.1 (subst (λ (l : List ℕ). AreApart l (numbers_of o)) (sym (append_assoc ns (numbers_of x) (all_numbers xs))) one))

  -- those that were taken in stay within what is seen, where nothing comes under their numbers
  within_further : (w u : Known Entry B) (goes : SeesMore w u) (ns : List ℕ) (xs : List (Option (PassOf S Entry B))) → NoneUnder (ns ++ all_numbers xs) goes.more → AllAre (WithinIf w) xs → AllAre (WithinIf u) xs
  within_further w u goes ns [] none all = tt
  within_further w u goes ns (None ∷ xs) none all = (tt, within_further w u goes ns xs none all.1)
  within_further w u goes ns (Some q ∷ xs) none all =
      let k = known q in
      let here : NoneUnder k.numbers goes.more = none_among k.numbers (ns ++ (k.numbers ++ all_numbers xs)) goes.more (λ m is. among_right ns (k.numbers ++ all_numbers xs) m (among_left k.numbers (all_numbers xs) m is)) none in (
        record {
          base = all.0.base ∙ sym goes.base_stays;
          later = all.0.later ++ goes.more;
          begins = sym (append_assoc k.seen all.0.later goes.more) ∙ ap (λ (l : List (ℕ × Entry)). l ++ goes.more) all.0.begins ∙ goes.begins;
          others = none_append k.numbers all.0.later goes.more all.0.others here;
        },
        within_further w u goes (ns ++ k.numbers) xs (subst (λ (l : List ℕ). NoneUnder l goes.more) (sym (append_assoc ns k.numbers (all_numbers xs))) none) all.1,
      )

  -- What a pass is behind one that was taken in, or where there was none.
  pub record TakesOne (w u : Known Entry B) (o : Option (PassOf S Entry B)) : Type 0 where
    pub goes : SeesMore w u
    pub numbers : u.numbers ≡ w.numbers ++ numbers_of o
    pub within : WithinIf u o
    pub apart : AreApart w.numbers (numbers_of o)
    pub parts : u.parts ≡ w.parts + parts_of o

  module _ (old : List (Option (PassOf S Entry B))) (v : Known Entry B) where
    pub none_in : InSoFar old old 0 v v
    none_in = record { goes = sees_same v; left = refl; long = refl; numbers = sym (append-nil v.numbers); within = tt; apart = tt; parts = omega arith }

    pub one_in : (items : List (Option (PassOf S Entry B))) (i : ℕ) (w u : Known Entry B) (o now d : Option (PassOf S Entry B)) → i < length items → o ≡ slice_index_or items i d
        → TakesOne w u o → InSoFar old items i v w → InSoFar old (slice_set items i now) (i + 1) v u
    one_in items i w u o now d inside is one s =
        let within : i < length old = subst (λ (n : ℕ). i < n) s.long inside in
        let heads : slice_index_or items i d ∷ drop (i + 1) items ≡ slice_index_or old i d ∷ drop (i + 1) old = sym (drop_more items i d inside) ∙ s.left ∙ drop_more old i d within in
        let same : o ≡ slice_index_or old i d = is ∙ first_same _ _ _ _ heads in
        let taken : take (i + 1) old ≡ take i old ++ o ∷ [] = take_more old i d within ∙ ap (λ (x : Option (PassOf S Entry B)). take i old ++ x ∷ []) (sym same) in
        let sum = total-append (take i old) (o ∷ []) in
        let had = s.parts in
        let more = one.parts in
        let front : NoneUnder v.numbers one.goes.more =
        none_among v.numbers w.numbers one.goes.more (λ m is. subst (λ (l : List ℕ). has l m ≡ true) (sym s.numbers) (among_left v.numbers (all_numbers (take i old)) m is)) one.goes.others in
        record {
          goes = record {
            base_stays = one.goes.base_stays ∙ s.goes.base_stays;
            more = s.goes.more ++ one.goes.more;
            begins = sym (append_assoc v.seen s.goes.more one.goes.more) ∙ ap (λ (l : List (ℕ × Entry)). l ++ one.goes.more) s.goes.begins ∙ one.goes.begins;
            others = none_append v.numbers s.goes.more one.goes.more s.goes.others front;
          };
          left = drop-set-lt (i + 1) items i now (omega arith) ∙ rest_same _ _ _ _ heads;
          long = length-set items i now ∙ s.long;
          numbers = one.numbers ∙ ap (λ (l : List ℕ). l ++ numbers_of o) s.numbers ∙ append_assoc v.numbers (all_numbers (take i old)) (numbers_of o)
              ∙ ap (λ (l : List ℕ). v.numbers ++ (all_numbers (take i old) ++ l)) (sym (append-nil (numbers_of o)))
              ∙ ap (λ (l : List ℕ). v.numbers ++ l) (sym (all_numbers-append (take i old) (o ∷ [])) ∙ ap all_numbers (sym taken));
          within = subst (AllAre (WithinIf u)) (sym taken) (all_append (WithinIf u) (take i old) (o ∷ [])
              (within_further w u one.goes v.numbers (take i old) (subst (λ (l : List ℕ). NoneUnder l one.goes.more) s.numbers one.goes.others) s.within) (one.within, tt));
          apart = subst (AreAllApart v.numbers) (sym taken) (apart_more v.numbers (take i old) o s.apart (subst (λ (l : List ℕ). AreApart l (numbers_of o)) s.numbers one.apart));
          parts = subst (λ (l : List (Option (PassOf S Entry B))). u.parts ≡ v.parts + total l) (sym taken) (omega arith);
        }

    pub all_in : (items : List (Option (PassOf S Entry B))) (i : ℕ) (w : Known Entry B) → length old ≤ i → InSoFar old items i v w → TakesIn old v w
    all_in items i w over s =
        let whole : take i old ≡ old = take_all i old over in
        record {
          goes = s.goes;
          numbers = s.numbers ∙ ap (λ (l : List (Option (PassOf S Entry B))). v.numbers ++ all_numbers l) whole;
          within = subst (AllAre (WithinIf w)) whole s.within;
          apart = subst (AreAllApart v.numbers) whole s.apart;
          parts = s.parts ∙ ap (λ (l : List (Option (PassOf S Entry B))). v.parts + total l) whole;
        }

-- what holds of all holds at an index
pub at_index : {X Y : Type 0} (P : Y → Type 0) (f : X → Y) (xs : List X) (i : ℕ) (d : X) → AllAre P (map f xs) → i < length xs → P (f (slice_index_or xs i d))
at_index P f [] i d all less = absurd (omega arith)
at_index P f (x ∷ xs) zero d all less = all.0
at_index P f (x ∷ xs) (suc i) d all less = at_index P f xs i d all.1 (omega arith)

module _ {S B X : Type 0} (pass : X → Option (PassOf S Entry B)) (old items : List X) (i : ℕ) (v w u : Known Entry B) (new : X) where
  pub out_step : (p : PassOf S Entry B) → i < length old → pass new ≡ Some p → Splits w u (known p) → OutSoFar (map pass old) (map pass items) i v w → OutSoFar (map pass old) (map pass (slice_set items i new)) (i + 1) v u
  out_step p inside is s o = subst (λ (l : List (Option (PassOf S Entry B))). OutSoFar (map pass old) l (i + 1) v u) (sym (map-set pass items i new ∙ ap (λ (x : Option (PassOf S Entry B)). slice_set (map pass items) i x) is))
      (one_out (map pass old) v (map pass items) i w u p (subst (λ (n : ℕ). i < n) (sym (length-map old pass)) inside) s o)

  taken_so : (o : Option (PassOf S Entry B)) → MatchOption o (u ≡ w) (λ p. Joins w (known p) u) → TakesOne w u o
  taken_so None same = subst (λ (k : Known Entry B). TakesOne {S = S} w k None) (sym same) (record { goes = sees_same w; numbers = sym (append-nil w.numbers); within = tt; apart = λ m one two. off two; parts = omega arith })
  taken_so (Some p) j =
      let base_stays : u.base ≡ w.base = ap (λ (k : Known Entry B). k.base) j.now in
      record {
        goes = record { base_stays = base_stays; more = j.mine.0; begins = j.mine.1; others = j.mine.2 };
        numbers = ap (λ (k : Known Entry B). k.numbers) j.now;
        within = record { base = j.base ∙ sym base_stays; later = j.theirs.0; begins = j.theirs.1; others = j.theirs.2 };
        apart = j.apart;
        parts = parts-join w (known p) u j;
      }

  pub in_step : (d : X) → i < length items → MatchOption (pass (slice_index_or items i d)) (u ≡ w) (λ p. Joins w (known p) u) → InSoFar (map pass old) (map pass items) i v w → InSoFar (map pass old) (map pass (slice_set items i new)) (i + 1) v u
  in_step d inside taken s =
      subst (λ (l : List (Option (PassOf S Entry B))). InSoFar (map pass old) l (i + 1) v u) (sym (map-set pass items i new))
      (one_in (map pass old) v (map pass items) i w u (pass (slice_index_or items i d)) (pass new) (pass d) (subst (λ (n : ℕ). i < n) (sym (length-map items pass)) inside) (sym (get_or-map pass items i d)) (taken_so (pass (slice_index_or items i d)) taken) s)

  pub vacant_step : pass new ≡ None → i < length items → AllAre (λ (o : Option (PassOf S Entry B)). o ≡ None) (take i (map pass items)) → AllAre (λ (o : Option (PassOf S Entry B)). o ≡ None) (take (i + 1) (map pass (slice_set items i new)))
  vacant_step is inside all = subst (AllAre (λ (o : Option (PassOf S Entry B)). o ≡ None)) (sym (ap (take (i + 1)) (map-set pass items i new) ∙ take_more_set (map pass items) i (pass new) (subst (λ (n : ℕ). i < n) (sym (length-map items pass)) inside)))
      (all_append (λ (o : Option (PassOf S Entry B)). o ≡ None) (take i (map pass items)) (pass new ∷ []) all (is, tt))

-- lists of which each item keeps something are of one length
pub same_length : {X Y : Type 0} (f : X → Y) (xs ys : List X) → map f xs ≡ map f ys → length xs ≡ length ys
same_length f xs ys same = sym (length-map xs f) ∙ ap length same ∙ length-map ys f

module _ {X Y : Type 0} (f : X → Y) (old items : List X) (i : ℕ) (new d : X) where
  -- what a seat keeps all seats keep
  pub kept_step : f new ≡ f (slice_index_or items i d) → map f items ≡ map f old → map f (slice_set items i new) ≡ map f old
  kept_step is same = map-set_same f items i new d is ∙ same

  pub over_step : (P : Y → Type 0) → map f items ≡ map f old → AllAre P (map f old) → i < length items → P (f (slice_index_or items i d))
  over_step P same all inside = at_index P f items i d (subst (AllAre P) (sym same) all) inside

  pub within_old : map f items ≡ map f old → i < length items → i < length old
  within_old same inside = subst (λ (n : ℕ). i < n) (same_length f items old same) inside

module _ {S B X : Type 0} (pass : X → Option (PassOf S Entry B)) (old items : List X) (i : ℕ) (v w u : Known Entry B) (new d : X) where
  -- one was refused
  pub refused_out : (memory : Memory) → i < length old → u ≡ w → pass new ≡ pass (slice_index_or items i d) → OutSoFar (map pass old) (map pass items) i v w → HandsOut (map pass old) (map pass (slice_set items i new)) v u (Err memory)
  refused_out memory inside same is o = subst (λ (l : List (Option (PassOf S Entry B))). HandsOut (map pass old) l v u (Err memory)) (sym (map-set_same pass items i new d is))
      (some_out (map pass old) v (map pass items) i w u memory (subst (λ (n : ℕ). i ≤ n) (sym (length-map old pass)) (omega arith)) same o)

-- of the parts that all have, enough for so many splits
pub enough_for : (n p : ℕ) → n ≤ 127 → p ≡ all_parts → 2 ^ n ≤ p
enough_for n p few is = subst (λ (q : ℕ). 2 ^ n ≤ q) (sym is) (pow_mono {i = n} {j = 127} few)

module _ {X : Type 0} where
  pub zip_map : {Y : Type 0} (R : X → X → Type 0) (f : X → Y) → ((a b : X) → R a b → f b ≡ f a) → (xs ys : List X) → AllZip R xs ys → map f ys ≡ map f xs
  zip_map R f keeps [] [] all = refl
  zip_map R f keeps [] (y ∷ ys) all = absurd all
  zip_map R f keeps (x ∷ xs) [] all = absurd all
  zip_map R f keeps (x ∷ xs) (y ∷ ys) all = λ i. keeps x y all.0 i ∷ zip_map R f keeps xs ys all.1 i

  pub zip_length : (R : X → X → Type 0) (xs ys : List X) → AllZip R xs ys → length ys ≡ length xs
  zip_length R xs ys all = let none : X → ℕ = λ x. 0 in same_length none ys xs (zip_map R none (λ a b r. refl) xs ys all)

  pub zip_weaker : (R Q : X → X → Type 0) → ((a b : X) → R a b → Q a b) → (xs ys : List X) → AllZip R xs ys → AllZip Q xs ys
  zip_weaker R Q so [] [] all = tt
  zip_weaker R Q so [] (y ∷ ys) all = absurd all
  zip_weaker R Q so (x ∷ xs) [] all = absurd all
  zip_weaker R Q so (x ∷ xs) (y ∷ ys) all = (so x y all.0, zip_weaker R Q so xs ys all.1)

-- seats over one lock stay so
pub over_all : {Y T : Type 0} (of : Y → T) (t t' : T) (old now : List Y) → AllAre (λ (y : Y). of y ≡ t) old → now ≡ old → t' ≡ t → AllAre (λ (y : Y). of y ≡ t') now
over_all {Y = Y} {T = T} of t t' old now all same is = subst (λ (k : T). AllAre (λ (y : Y). of y ≡ k) now) (sym is) (subst (AllAre (λ (y : Y). of y ≡ t)) (sym same) all)
