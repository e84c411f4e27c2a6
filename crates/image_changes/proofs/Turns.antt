-- Changes at rising keys, of a list whose first item is passed.
use Rattle.std.proofs.Common.{◌≡◌, ◌∙◌, ◌<◌, ℕ, Bool, true, false, List, [], ◌∷◌, ◌++◌, Option, Some, None, refl, sym, ap}
use Rattle.std.specs.Prelude.{◌&&◌, ◌||◌, not, nat_eq, map}
use Rattle.std.specs.List.{AllByRecursion as AllAre, list_any}
use Rattle.std.specs.Option.{option_map, option_to_list}
use Rattle.std.specs.Ordering.{is_lt, nat_cmp, ordering_reverse}
use Rattle.std.specs.Cmp.{IsTotalOrder}
use Rattle.std.specs.Cmp.{nat_cmp_is}
use Rattle.std.specs.declared.cmp.Ordering.{Ordering}
use Rattle.std.specs.declared.cmp.Ordering.TheVariants.{Less, Equal, Greater}
use Rattle.std.proofs.lemmas.Bool.{eqb-true}
use Rattle.delta_form.specs.Applying.{◌>>=◌, in_turn}
use Rattle.delta_form.specs.Changes.{Changing, Parted, changed, changed_at, part_before, parted, rising}
use Rattle.delta_form.specs.After.{are_apart}
use Rattle.delta_form.proofs.Orders.{all_to}
use Rattle.image_changes.specs.Walks.{Above}

-- one change more
pub one_more : {C V : Type 0} (change : C → V → Option V) (cs : List C) (c : C) (v w : V) → in_turn change cs v ≡ Some w → in_turn change (cs ++ c ∷ []) v ≡ change c w
one_more {C} {V} change [] c v w e = let same : v ≡ w = cc in alone (change c v) ∙ ap (change c) same
  where
    alone : (o : Option V) → (o >>= in_turn change []) ≡ o
    alone None = refl
    alone (Some x) = refl
one_more {C} {V} change (d ∷ ds) c v w e = go (λ x. one_more change ds c x w) (change d v) e
  where
    go : ((x : V) → in_turn change ds x ≡ Some w → in_turn change (ds ++ c ∷ []) x ≡ change c w) → (o : Option V) → (o >>= in_turn change ds) ≡ Some w → (o >>= in_turn change (ds ++ c ∷ [])) ≡ change c w
    go next None is = absurd cc
    go next (Some x) is = next x is

-- a change that is first
pub first_made : {C V : Type 0} (change : C → V → Option V) (cs : List C) (c : C) (v w : V) → change c v ≡ Some w → in_turn change (c ∷ cs) v ≡ in_turn change cs w
first_made change cs c v w e = ap (λ o. o >>= in_turn change cs) e

-- ---- orders

pub less_is : (m n : ℕ) → m < n → nat_cmp m n ≡ Less
less_is m n lt = sym (nat_cmp_is m n Less lt)

-- what is below all rises with them
pub rises_with : {C : Type 0} (order : C → C → Ordering) (c : C) (cs : List C) → AllAre (λ d. order c d ≡ Less) cs → rising order cs ≡ true → rising order (c ∷ cs) ≡ true
rises_with order c [] all e = refl
rises_with order c (d ∷ ds) all e = ap (λ (o : Ordering). is_lt o && rising order (d ∷ ds)) all.0 ∙ e

-- keys in a total order
module _ {K C X : Type 0} (order : K → K → Ordering) (total : IsTotalOrder order) (by : X → K) (number : C → K) (made : C → Option X → Option (Option X)) where
  abbrev how : Changing C X
  how = record { compare = λ x c. order (by x) (number c); order = λ c d. order (number c) (number d); made = made }

  abbrev both : List X × List X → List X
  both h = h.0 ++ h.1

  abbrev made_in : Parted X → Option X → List X × List X
  made_in p y = (p.0 ++ option_to_list y, p.1.1)

  pub below_rest : (k : K) (b : X) (bs : List X) → order k (by b) ≡ Less → Above order by (by b) bs → Above order by k bs
  below_rest k b bs less above = all_to (λ x. order (by b) (by x) ≡ Less) (λ x. order k (by x) ≡ Less) (λ x next. total.trans k (by b) (by x) less next) bs above

  behind : (b : X) (p : Parted X) (o : Option (Option X)) → option_map both (option_map (made_in (b ∷ p.0, p.1)) o) ≡ option_map (λ l. b ∷ l) (option_map both (option_map (made_in p) o))
  behind b p None = refl
  behind b p (Some y) = refl

  passed_at : (b : X) (c : C) (bs : List X) → order (by b) (number c) ≡ Less → changed_at how c (b ∷ bs) ≡ option_map (λ l. b ∷ l) (changed_at how c bs)
  passed_at b c bs less =
      let p = parted (λ x. how.compare x c) bs in
      ap (λ (o : Ordering). let q = part_before o b bs p in option_map both (option_map (made_in q) (made c q.1.0))) less
      ∙ behind b p (made c p.1.0)

  -- an item that is below all changes stays in front
  pub stays : (b : X) (cs : List C) (bs : List X) → Above order number (by b) cs → changed how cs (b ∷ bs) ≡ option_map (λ l. b ∷ l) (changed how cs bs)
  stays b [] bs above = refl
  stays b (c ∷ cs) bs above = ap (λ (o : Option (List X)). o >>= changed how cs) (passed_at b c bs above.0) ∙ go (λ l. stays b cs l above.1) (changed_at how c bs)
    where
      go : ((l : List X) → changed how cs (b ∷ l) ≡ option_map (λ k. b ∷ k) (changed how cs l)) → (o : Option (List X)) → (option_map (λ l. b ∷ l) o >>= changed how cs) ≡ option_map (λ l. b ∷ l) (o >>= changed how cs)
      go next None = refl
      go next (Some l) = next l

  pub stays_some : (b : X) (cs : List C) (bs ns : List X) → Above order number (by b) cs → changed how cs bs ≡ Some ns → changed how cs (b ∷ bs) ≡ Some (b ∷ ns)
  stays_some b cs bs ns above e = stays b cs bs above ∙ ap (option_map (λ l. b ∷ l)) e

  -- a change at the first item
  pub made_at : (b : X) (c : C) (cs : List C) (bs : List X) (y : Option X) → order (by b) (number c) ≡ Equal → made c (Some b) ≡ Some y → changed how (c ∷ cs) (b ∷ bs) ≡ changed how cs (option_to_list y ++ bs)
  made_at b c cs bs y equal e =
      let p = parted (λ x. how.compare x c) bs in
      ap (λ (o : Ordering). let q = part_before o b bs p in option_map both (option_map (made_in q) (made c q.1.0)) >>= changed how cs) equal
      ∙ ap (λ (o : Option (Option X)). option_map both (option_map (λ y. (option_to_list y, bs)) o) >>= changed how cs) e

  greater : (k l : K) → order k l ≡ Less → order l k ≡ Greater
  greater k l less = total.antisymm l k ∙ ap ordering_reverse less

  -- a change below all items
  pub made_below : (c : C) (cs : List C) (bs : List X) (n : X) → Above order by (number c) bs → made c None ≡ Some (Some n) → changed how (c ∷ cs) bs ≡ changed how cs (n ∷ bs)
  made_below c cs [] n above e = ap (λ (o : Option (Option X)). option_map both (option_map (λ y. (option_to_list y, [])) o) >>= changed how cs) e
  made_below c cs (b ∷ bs) n above e =
      let p = parted (λ x. how.compare x c) bs in
      ap (λ (o : Ordering). let q = part_before o b bs p in option_map both (option_map (made_in q) (made c q.1.0)) >>= changed how cs) (greater (number c) (by b) above.0)
      ∙ ap (λ (o : Option (Option X)). option_map both (option_map (λ y. (option_to_list y, b ∷ bs)) o) >>= changed how cs) e

-- ---- numbers apart

differ : (m n : ℕ) → nat_cmp m n ≡ Less → nat_eq m n ≡ false
differ m n less = go (nat_eq m n) refl
  where
    go : (b : Bool) → nat_eq m n ≡ b → b ≡ false
    go true e =
        let same = eqb-true m n e in
        let is : nat_cmp m n ≡ Equal = sym (nat_cmp_is m n Equal same) in
        let no : Less ≡ Equal = sym less ∙ is in absurd cc
    go false e = refl

-- a number below all is not among them
pub not_among : {C : Type 0} (number : C → ℕ) (k : ℕ) (cs : List C) → Above nat_cmp number k cs → list_any (nat_eq k) (map number cs) ≡ false
not_among number k [] above = refl
not_among number k (c ∷ cs) above = ap (λ (b : Bool). b || list_any (nat_eq k) (map number cs)) (differ k (number c) above.0) ∙ not_among number k cs above.1

pub apart_gone : {C : Type 0} (number : C → ℕ) (k : ℕ) (closed : List ℕ) (cs : List C) → Above nat_cmp number k cs → are_apart closed (map number cs) ≡ true → are_apart (k ∷ closed) (map number cs) ≡ true
apart_gone number k closed cs above apart = ap (λ (b : Bool). not b && are_apart closed (map number cs)) (not_among number k cs above) ∙ apart

differ_back : (m n : ℕ) → nat_cmp n m ≡ Less → nat_eq m n ≡ false
differ_back m n less = go (nat_eq m n) refl
  where
    go : (b : Bool) → nat_eq m n ≡ b → b ≡ false
    go true e =
        let same = eqb-true m n e in
        let is : nat_cmp n m ≡ Equal = sym (nat_cmp_is n m Equal (sym same)) in
        let no : Less ≡ Equal = sym less ∙ is in absurd cc
    go false e = refl

pub apart_written : (m : ℕ) (closed ms : List ℕ) → Above nat_cmp (λ n. n) m closed → are_apart closed ms ≡ true → are_apart closed (m ∷ ms) ≡ true
apart_written m [] ms above apart = refl
apart_written m (n ∷ ns) ms above apart =
    ap (λ (b : Bool). not (b || list_any (nat_eq n) ms) && are_apart ns (m ∷ ms)) (differ_back n m above.0)
    ∙ go (not (list_any (nat_eq n) ms)) (are_apart ns ms) apart (apart_written m ns ms above.1)
  where
    go : (a b : Bool) → (a && b) ≡ true → (b ≡ true → are_apart ns (m ∷ ms) ≡ true) → (a && are_apart ns (m ∷ ms)) ≡ true
    go true b e next = next e
    go false b e next = absurd cc
