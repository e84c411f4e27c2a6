-- Threads in a row, which differ in their numbers: each is found by its number, and the thread of an open request waits for it.
use Rattle.std.proofs.Common.{arith, ◌≡◌, ◌∙◌, ◌<◌, ◌≤◌, ℕ, zero, suc, Bool, true, false, List, [], ◌∷◌, ◌++◌, map, Option, Some, None, refl, ap, subst, sym}
use Rattle.std.specs.Prelude.{if◌then◌else◌, nat_eq, not, slice_get}
use Rattle.std.specs.List.{AllByRecursion as AllAre}
use Rattle.std.proofs.lemmas.Bool.{eqb-true, eqb-false, eq-eqb, ne_eqb}
use Rattle.model_values.proofs.LaterLaws.{all_weaker}
use Rattle.model_run.specs.declared.wait.Answer.{Answer}
use Rattle.model_run.specs.declared.wait.Wait.TheVariants.{Ready, Request as RequestWait}
use Rattle.model_run.specs.Fitting.{Above, Distinct, Seat as Image_seat, Waited, WaitsFor, seat_of}
use Rattle.green_threads.specs.declared.runner.NewBranch.{NewBranch}
use Rattle.green_threads.specs.declared.runner.Seated.{Seated}
use Rattle.settle_laws.specs.Stances.{Stance}
use Rattle.green_threads.specs.Resuming.{AllBelow}
use Rattle.green_threads.specs.Threads.{is_request, new_seats, waits_for_request, with_seat, without_seat}
use Rattle.thread_fits.specs.Seats.{as_seat}

module _ {T : Type 0} where
  -- the numbers of threads
  abbrev pub numbers : List (Seated T) → List ℕ
  numbers xs = map (λ (x : Seated T). x.number) xs

  -- a change of a thread that leaves its number
  abbrev pub KeepsNumber : (Seated T → Seated T) → Type 0
  KeepsNumber g = (y : Seated T) → (g y).number ≡ y.number

  pub some_same : (y x : Seated T) → Some y ≡ Some x → y ≡ x
  some_same y x e = cc e

  pub all_at : (P : Seated T → Type 0) (xs : List (Seated T)) (i : ℕ) (x : Seated T) → AllAre P xs → slice_get xs i ≡ Some x → P x
  all_at P [] i x h e = absurd (cc e)
  all_at P (y ∷ ys) zero x h e = subst P (some_same y x e) h.0
  all_at P (y ∷ ys) (suc i) x h e = all_at P ys i x h.1 e

  pub with_all : (P Q : Seated T → Type 0) (g : Seated T → Seated T) (n : ℕ) → ((y : Seated T) → y.number ≡ n → P y → Q (g y)) → ((y : Seated T) → (y.number ≡ n → ⊥) → P y → Q y) → (ys : List (Seated T)) → AllAre P ys → AllAre Q (with_seat g n ys)
  with_all P Q g n same other [] h = tt
  with_all P Q g n same other (y ∷ ys) h = (one (nat_eq y.number n) refl, with_all P Q g n same other ys h.1)
    where
      one : (b : Bool) → nat_eq y.number n ≡ b → Q (if b then g y else y)
      one true e = same y (eqb-true _ _ e) h.0
      one false e = other y (eqb-false _ _ e) h.0

  pub without_all : (P Q : Seated T → Type 0) (n : ℕ) → ((y : Seated T) → (y.number ≡ n → ⊥) → P y → Q y) → (ys : List (Seated T)) → AllAre P ys → AllAre Q (without_seat n ys)
  without_all P Q n other [] h = tt
  without_all P Q n other (y ∷ ys) h = one (nat_eq y.number n) refl (without_all P Q n other ys h.1)
    where
      one : (b : Bool) → nat_eq y.number n ≡ b → AllAre Q (without_seat n ys) → AllAre Q (if not b then y ∷ without_seat n ys else without_seat n ys)
      one true e more = more
      one false e more = (other y (eqb-false _ _ e) h.0, more)

  pub all_more : (P : Seated T → Type 0) (xs ys : List (Seated T)) → AllAre P xs → AllAre P ys → AllAre P (xs ++ ys)
  all_more P [] ys a b = b
  all_more P (x ∷ xs) ys a b = (a.0, all_more P xs ys a.1 b)

  pub all_both : (P Q : Seated T → Type 0) (xs : List (Seated T)) → AllAre P xs → AllAre Q xs → AllAre (λ y. P y × Q y) xs
  all_both P Q [] a b = tt
  all_both P Q (x ∷ xs) a b = ((a.0, b.0), all_both P Q xs a.1 b.1)

  -- Numbers that differ.
  pub numbers_with : (g : Seated T → Seated T) → KeepsNumber g → (n : ℕ) (xs : List (Seated T)) → numbers (with_seat g n xs) ≡ numbers xs
  numbers_with g keeps n [] = refl
  numbers_with g keeps n (x ∷ xs) = one (nat_eq x.number n) (numbers_with g keeps n xs)
    where
      one : (b : Bool) → numbers (with_seat g n xs) ≡ numbers xs → numbers ((if b then g x else x) ∷ with_seat g n xs) ≡ numbers (x ∷ xs)
      one true more = ap (λ k. k ∷ numbers (with_seat g n xs)) (keeps x) ∙ ap (λ ks. x.number ∷ ks) more
      one false more = ap (λ ks. x.number ∷ ks) more

  pub differ_with : (g : Seated T → Seated T) → KeepsNumber g → (n : ℕ) (xs : List (Seated T)) → Distinct (numbers xs) → Distinct (numbers (with_seat g n xs))
  differ_with g keeps n xs d = subst Distinct (sym (numbers_with g keeps n xs)) d

  apart_without : (m n : ℕ) (xs : List (Seated T)) → AllAre (λ k. m ≡ k → ⊥) (numbers xs) → AllAre (λ k. m ≡ k → ⊥) (numbers (without_seat n xs))
  apart_without m n [] h = tt
  apart_without m n (x ∷ xs) h = one (nat_eq x.number n) (apart_without m n xs h.1)
    where
      one : (b : Bool) → AllAre (λ k. m ≡ k → ⊥) (numbers (without_seat n xs)) → AllAre (λ k. m ≡ k → ⊥) (numbers (if not b then x ∷ without_seat n xs else without_seat n xs))
      one true more = more
      one false more = (h.0, more)

  pub differ_without : (n : ℕ) (xs : List (Seated T)) → Distinct (numbers xs) → Distinct (numbers (without_seat n xs))
  differ_without n [] d = tt
  differ_without n (x ∷ xs) d = one (nat_eq x.number n) (differ_without n xs d.1)
    where
      one : (b : Bool) → Distinct (numbers (without_seat n xs)) → Distinct (numbers (if not b then x ∷ without_seat n xs else without_seat n xs))
      one true more = more
      one false more = (apart_without x.number n xs d.0, more)

  -- new threads have numbers from the next one on
  new_apart : (f : T → ℕ → Option ℕ → T) (p m n : ℕ) (ts : List (NewBranch T)) → m < n → AllAre (λ k. m ≡ k → ⊥) (numbers (new_seats f p n ts))
  new_apart f p m n [] lt = tt
  new_apart f p m n (t ∷ ts) lt = ((λ e. omega (arith, lt, e)), new_apart f p m (suc n) ts (omega (arith, lt)))

  new_differ : (f : T → ℕ → Option ℕ → T) (p n : ℕ) (ts : List (NewBranch T)) → Distinct (numbers (new_seats f p n ts))
  new_differ f p n [] = tt
  new_differ f p n (t ∷ ts) = (new_apart f p n (suc n) ts (omega arith), new_differ f p (suc n) ts)

  apart_more : (m : ℕ) (xs ys : List (Seated T)) → AllAre (λ k. m ≡ k → ⊥) (numbers xs) → AllAre (λ k. m ≡ k → ⊥) (numbers ys) → AllAre (λ k. m ≡ k → ⊥) (numbers (xs ++ ys))
  apart_more m [] ys a b = b
  apart_more m (x ∷ xs) ys a b = (a.0, apart_more m xs ys a.1 b)

  pub differ_more : (f : T → ℕ → Option ℕ → T) (p n : ℕ) (ts : List (NewBranch T)) (xs : List (Seated T)) → AllBelow n xs → Distinct (numbers xs) → Distinct (numbers (xs ++ new_seats f p n ts))
  differ_more f p n ts [] below d = new_differ f p n ts
  differ_more f p n ts (x ∷ xs) below d = (apart_more x.number xs (new_seats f p n ts) d.0 (new_apart f p x.number n ts below.0), differ_more f p n ts xs below.1 d.1)

  pub below_with : (g : Seated T → Seated T) → KeepsNumber g → (n m : ℕ) (xs : List (Seated T)) → AllBelow m xs → AllBelow m (with_seat g n xs)
  below_with g keeps n m xs below = with_all (λ y. y.number < m) (λ y. y.number < m) g n (λ y e lt. subst (λ k. k < m) (sym (keeps y)) lt) (λ y e lt. lt) xs below

  -- What holds at each place.
  pub all_from : (P : Seated T → Type 0) (xs : List (Seated T)) → ((i : ℕ) (x : Seated T) → slice_get xs i ≡ Some x → P x) → AllAre P xs
  all_from P [] h = tt
  all_from P (x ∷ xs) h = (h 0 x refl, all_from P xs (λ i y e. h (suc i) y e))

module _ {T : Type 0} (stance : T → Stance) where
  -- The thread of a number.
  abbrev pub found : List (Seated T) → ℕ → Option Image_seat
  found xs n = seat_of (map (as_seat stance) xs) n

  apart_at : (m : ℕ) (xs : List (Seated T)) (i : ℕ) (x : Seated T) → AllAre (λ k. m ≡ k → ⊥) (numbers xs) → slice_get xs i ≡ Some x → m ≡ x.number → ⊥
  apart_at m [] i x h e same = absurd (cc e)
  apart_at m (y ∷ ys) zero x h e same = h.0 (same ∙ ap (λ (z : Seated T). z.number) (sym (some_same y x e)))
  apart_at m (y ∷ ys) (suc i) x h e same = apart_at m ys i x h.1 e same

  -- it is the one at this place
  pub found_at : (xs : List (Seated T)) (i : ℕ) (x : Seated T) → Distinct (numbers xs) → slice_get xs i ≡ Some x → found xs x.number ≡ Some (as_seat stance x)
  found_at [] i x d e = absurd (cc e)
  found_at (y ∷ ys) zero x d e = subst (λ (z : Seated T). (if nat_eq z.number x.number then Some (as_seat stance z) else found ys x.number) ≡ Some (as_seat stance x)) (sym (some_same y x e)) (ap (λ b. if b then Some (as_seat stance x) else found ys x.number) (eq-eqb x.number x.number refl))
  found_at (y ∷ ys) (suc i) x d e = ap (λ b. if b then Some (as_seat stance y) else found ys x.number) (ne_eqb y.number x.number (apart_at y.number ys i x d.0 e)) ∙ found_at ys i x d.1 e

  -- What a request's thread waits for.
  abbrev pub IsAwaited : ℕ → ℕ → List (Seated T) → Type 0
  IsAwaited r n xs = WaitsFor r (found xs n)

  -- a thread that is ready waits for no request
  pub ready_awaits : (xs : List (Seated T)) (i : ℕ) (x : Seated T) (r : ℕ) (a : Answer) → Distinct (numbers xs) → slice_get xs i ≡ Some x → x.wait ≡ Ready a → IsAwaited r x.number xs → ⊥
  ready_awaits xs i x r a d e ready h =
      let wait : x.wait ≡ RequestWait r = subst (WaitsFor r) (found_at xs i x d e) h in
      let no : Ready a ≡ RequestWait r = sym ready ∙ wait in
      absurd (cc no)

  -- a thread waits for one request
  pub awaits_one : (xs : List (Seated T)) (n r q : ℕ) → IsAwaited r n xs → IsAwaited q n xs → r ≡ q
  awaits_one xs n r q a b = by (found xs n) a b
    where
      by : (o : Option Image_seat) → WaitsFor r o → WaitsFor q o → r ≡ q
      by None a b = absurd a
      by (Some t) a b = (let same : RequestWait r ≡ RequestWait q = sym a ∙ b in cc same)

  -- What holds of the thread of a number, where a thread is changed.
  pub found_with : (Q : Option Image_seat → Type 0) (g : Seated T → Seated T) → KeepsNumber g → (n m : ℕ) → ((y : Seated T) → m ≡ n → Q (Some (as_seat stance y)) → Q (Some (as_seat stance (g y)))) → (xs : List (Seated T)) → Q (found xs m) → Q (found (with_seat g n xs) m)
  found_with Q g keeps n m still [] h = h
  found_with Q g keeps n m still (x ∷ xs) h = one (nat_eq x.number n) refl h (found_with Q g keeps n m still xs)
    where
      changed : nat_eq x.number n ≡ true → (c : Bool) → nat_eq x.number m ≡ c → Q (if c then Some (as_seat stance x) else found xs m) → (Q (found xs m) → Q (found (with_seat g n xs) m)) → Q (if c then Some (as_seat stance (g x)) else found (with_seat g n xs) m)
      changed e true at h more = still x (sym (eqb-true _ _ at) ∙ eqb-true _ _ e) h
      changed e false at h more = more h

      same : (c : Bool) → Q (if c then Some (as_seat stance x) else found xs m) → (Q (found xs m) → Q (found (with_seat g n xs) m)) → Q (if c then Some (as_seat stance x) else found (with_seat g n xs) m)
      same true h more = h
      same false h more = more h

      one : (b : Bool) → nat_eq x.number n ≡ b → Q (if nat_eq x.number m then Some (as_seat stance x) else found xs m) → (Q (found xs m) → Q (found (with_seat g n xs) m)) → Q (found ((if b then g x else x) ∷ with_seat g n xs) m)
      one true e h more = subst (λ k. Q (if nat_eq k m then Some (as_seat stance (g x)) else found (with_seat g n xs) m)) (sym (keeps x)) (changed e (nat_eq x.number m) refl h more)
      one false e h more = same (nat_eq x.number m) h more

  -- and of the thread that is changed
  pub found_now : (Q : Option Image_seat → Type 0) (g : Seated T → Seated T) → KeepsNumber g → ((y : Seated T) → Q (Some (as_seat stance (g y)))) → (xs : List (Seated T)) (i : ℕ) (x : Seated T) → slice_get xs i ≡ Some x → Q (found (with_seat g x.number xs) x.number)
  found_now Q g keeps holds [] i x e = absurd (cc e)
  found_now Q g keeps holds (y ∷ ys) zero x e = one (nat_eq y.number x.number) refl
    where
      one : (b : Bool) → nat_eq y.number x.number ≡ b → Q (found ((if b then g y else y) ∷ with_seat g x.number ys) x.number)
      one true is = subst (λ c. Q (if c then Some (as_seat stance (g y)) else found (with_seat g x.number ys) x.number)) (sym (ap (λ k. nat_eq k x.number) (keeps y) ∙ is)) (holds y)
      one false is = absurd (eqb-false _ _ is (ap (λ (z : Seated T). z.number) (some_same y x e)))
  found_now Q g keeps holds (y ∷ ys) (suc i) x e = one (nat_eq y.number x.number) refl (found_now Q g keeps holds ys i x e)
    where
      one : (b : Bool) → nat_eq y.number x.number ≡ b → Q (found (with_seat g x.number ys) x.number) → Q (found ((if b then g y else y) ∷ with_seat g x.number ys) x.number)
      one true is more = subst (λ c. Q (if c then Some (as_seat stance (g y)) else found (with_seat g x.number ys) x.number)) (sym (ap (λ k. nat_eq k x.number) (keeps y) ∙ is)) (holds y)
      one false is more = subst (λ c. Q (if c then Some (as_seat stance y) else found (with_seat g x.number ys) x.number)) (sym is) more

  -- where another thread is gone
  pub found_without : (Q : Option Image_seat → Type 0) (n m : ℕ) → (m ≡ n → ⊥) → (xs : List (Seated T)) → Q (found xs m) → Q (found (without_seat n xs) m)
  found_without Q n m other [] h = h
  found_without Q n m other (x ∷ xs) h = one (nat_eq x.number n) refl h (found_without Q n m other xs)
    where
      gone : nat_eq x.number n ≡ true → (c : Bool) → nat_eq x.number m ≡ c → Q (if c then Some (as_seat stance x) else found xs m) → (Q (found xs m) → Q (found (without_seat n xs) m)) → Q (found (without_seat n xs) m)
      gone e true at h more = absurd (other (sym (eqb-true _ _ at) ∙ eqb-true _ _ e))
      gone e false at h more = more h

      same : (c : Bool) → Q (if c then Some (as_seat stance x) else found xs m) → (Q (found xs m) → Q (found (without_seat n xs) m)) → Q (if c then Some (as_seat stance x) else found (without_seat n xs) m)
      same true h more = h
      same false h more = more h

      one : (b : Bool) → nat_eq x.number n ≡ b → Q (if nat_eq x.number m then Some (as_seat stance x) else found xs m) → (Q (found xs m) → Q (found (without_seat n xs) m)) → Q (found (if not b then x ∷ without_seat n xs else without_seat n xs) m)
      one true e h more = gone e (nat_eq x.number m) refl h more
      one false e h more = same (nat_eq x.number m) h more

  -- where others stand behind
  pub found_more : (Q : Option Image_seat → Type 0) → (Q None → ⊥) → (m : ℕ) (xs ys : List (Seated T)) → Q (found xs m) → Q (found (xs ++ ys) m)
  found_more Q never m [] ys h = absurd (never h)
  found_more Q never m (x ∷ xs) ys h = one (nat_eq x.number m) h (found_more Q never m xs ys)
    where
      one : (c : Bool) → Q (if c then Some (as_seat stance x) else found xs m) → (Q (found xs m) → Q (found (xs ++ ys) m)) → Q (if c then Some (as_seat stance x) else found (xs ++ ys) m)
      one true h more = h
      one false h more = more h

  -- and of those that stand behind
  pub found_behind : (n k : ℕ) (xs ys : List (Seated T)) → AllBelow n xs → n ≤ k → found (xs ++ ys) k ≡ found ys k
  found_behind n k [] ys below le = refl
  found_behind n k (x ∷ xs) ys below le =
      ap (λ c. if c then Some (as_seat stance x) else found (xs ++ ys) k) (ne_eqb x.number k (λ e. (let lt : x.number < n = below.0 in omega (arith, lt, le, e)))) ∙ found_behind n k xs ys below.1 le

  -- and so a group sees it
  pub waits_there : (m r : ℕ) (xs : List (Seated T)) → IsAwaited r m xs → waits_for_request m xs ≡ true
  waits_there m r [] h = absurd h
  waits_there m r (x ∷ xs) h = one (nat_eq x.number m) h (waits_there m r xs)
    where
      one : (c : Bool) → WaitsFor r (if c then Some (as_seat stance x) else found xs m) → (IsAwaited r m xs → waits_for_request m xs ≡ true) → (if c then is_request x.wait else waits_for_request m xs) ≡ true
      one true h more = ap is_request h
      one false h more = more h

  -- the thread of a request is the one that waits for it
  pub each_waits : (r n : ℕ) (xs : List (Seated T)) → Distinct (numbers xs) → IsAwaited r n xs → AllAre (λ y. y.number ≡ n → y.wait ≡ RequestWait r) xs
  each_waits r n xs d h = all_from (λ y. y.number ≡ n → y.wait ≡ RequestWait r) xs (λ i y e at. subst (WaitsFor r) (ap (found xs) (sym at) ∙ found_at xs i y d e) h)

  same_seat : (a b : Image_seat) → Some a ≡ Some b → a ≡ b
  same_seat a b e = cc e

  -- threads of one number are one, and have one parent
  pub same_seat_as : (i : ℕ) (x : Seated T) (xs : List (Seated T)) → Distinct (numbers xs) → slice_get xs i ≡ Some x → AllAre (λ y. y.number ≡ x.number → as_seat stance y ≡ as_seat stance x) xs
  same_seat_as i x xs d at = all_from (λ y. y.number ≡ x.number → as_seat stance y ≡ as_seat stance x) xs
      (λ j y e same. same_seat (as_seat stance y) (as_seat stance x) (sym (found_at xs j y d e) ∙ ap (found xs) same ∙ found_at xs i x d at))

  pub same_parent : (i : ℕ) (x : Seated T) (xs : List (Seated T)) → Distinct (numbers xs) → slice_get xs i ≡ Some x → AllAre (λ y. y.number ≡ x.number → y.parent ≡ x.parent) xs
  same_parent i x xs d at = all_weaker _ _ (λ y h e. ap (λ (s : Image_seat). s.parent) (h e)) xs (same_seat_as i x xs d at)

  -- who waits for a request, and who is ready, waits for no branch
  pub awaited_above : (xs : List (Seated T)) (n r m : ℕ) → IsAwaited r n xs → Above m (found xs n) → ⊥
  awaited_above xs n r m h above = by (found xs n) h above
    where
      by : (o : Option Image_seat) → WaitsFor r o → Above m o → ⊥
      by None h above = h
      by (Some t) h above = subst (Waited m) h above

  pub ready_above : (xs : List (Seated T)) (i : ℕ) (x : Seated T) (a : Answer) (m : ℕ) → Distinct (numbers xs) → slice_get xs i ≡ Some x → x.wait ≡ Ready a → Above m (found xs x.number) → ⊥
  ready_above xs i x a m d at ready above = subst (Waited m) ready (subst (Above m) (found_at xs i x d at) above)
