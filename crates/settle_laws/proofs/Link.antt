-- What the threads of a group settle to, the threads of the definitions settle to: lists of seats and of threads, changed alike.
use Rattle.std.proofs.Common.{◌≡◌, ℕ, zero, suc, ◌+◌, ◌≤◌, ◌<◌, List, [], ◌∷◌, ◌++◌, Bool, true, false, refl, sym, ap, subst, ◌∙◌, length, Option, Some, None, arith, slice_get}
use Rattle.std.specs.Prelude.{nat_eq, map, not, if◌then◌else◌}
use Rattle.std.proofs.lemmas.Bool.{eq-eqb, eqb-true}
use Rattle.model_values.specs.declared.value.Outcome.{Outcome}
use Rattle.model_run.specs.declared.wait.Answer.{Answer}
use Rattle.model_run.specs.declared.wait.Wait.{Wait}
use Rattle.model_run.specs.declared.wait.Wait.TheVariants.{Ready, Request as RequestWait, Branches as BranchesWait}
use Rattle.model_run.specs.declared.ending.Branch.{Branch}
use Rattle.model_run.specs.declared.ending.Ending.{Ending}
use Rattle.model_run.specs.declared.ending.Ending.TheVariants.{Normal, Thrown, Returned, Broke, Continued, Declared, Answered}
use Rattle.model_run.specs.State.{Setting, Common, Own}
use Rattle.model_run.specs.Threads.{Thread}
use Rattle.model_run.specs.World as W
use Rattle.green_threads.specs.declared.runner.NewBranch.{NewBranch}
use Rattle.green_threads.specs.declared.runner.Seated.{Seated}
use Rattle.green_threads.specs.Threads as G
use Rattle.settle_laws.specs.Stances.{Stance, seated_as, StandsAt, StandsFor, AllNew}
use Rattle.settle_laws.specs.Standing.{Rising, OnlyScript, Same, Matches, causes, end_result, heads}

module _ {T : Type 0} where
  -- rising numbers
  pub low_next : (low : ℕ) (xs : List (Seated T)) (next : ℕ) → Rising low xs next → low ≤ next
  low_next low [] next r = r
  low_next low (x ∷ xs) next r = omega (arith, r.0, low_next (suc x.number) xs next r.1)

  pub lower : (low low' : ℕ) (xs : List (Seated T)) (next : ℕ) → low' ≤ low → Rising low xs next → Rising low' xs next
  lower low low' [] next le r = omega (arith, le, r)
  lower low low' (x ∷ xs) next le r = (omega (arith, le, r.0), r.1)

  pub at_least : (low : ℕ) (xs : List (Seated T)) (next i : ℕ) (x : Seated T) → Rising low xs next → slice_get xs i ≡ Some x → low ≤ x.number
  at_least low [] next i x r e = absurd (cc e)
  at_least low (z ∷ zs) next zero x r e = let q : z ≡ x = cc e in subst (λ (u : Seated T). low ≤ u.number) q r.0
  at_least low (z ∷ zs) next (suc i) x r e = omega (arith, r.0, at_least (suc z.number) zs next i x r.1 e)

  number_if : (f : Seated T → Seated T) → ((x : Seated T) → (f x).number ≡ x.number) → (n : ℕ) (x : Seated T) → (G.seat_if f n x).number ≡ x.number
  number_if f k n x = go (nat_eq x.number n)
    where
      go : (b : Bool) → (if b then f x else x).number ≡ x.number
      go true = k x
      go false = refl

  pub rising_with : (f : Seated T → Seated T) → ((x : Seated T) → (f x).number ≡ x.number) → (n low : ℕ) (xs : List (Seated T)) (next : ℕ) → Rising low xs next → Rising low (G.with_seat f n xs) next
  rising_with f k n low [] next r = r
  rising_with f k n low (x ∷ xs) next r =
      let e = number_if f k n x in
      (omega (arith, r.0, e), subst (λ m. Rising (suc m) (G.with_seat f n xs) next) (sym e) (rising_with f k n (suc x.number) xs next r.1))

  pub rising_without : (n low : ℕ) (xs : List (Seated T)) (next : ℕ) → Rising low xs next → Rising low (G.without_seat n xs) next
  rising_without n low [] next r = r
  rising_without n low (x ∷ xs) next r = go (rising_without n (suc x.number) xs next r.1) (nat_eq x.number n)
    where
      go : Rising (suc x.number) (G.without_seat n xs) next → (b : Bool) → Rising low (if not b then x ∷ G.without_seat n xs else G.without_seat n xs) next
      go rest true = lower (suc x.number) low (G.without_seat n xs) next (omega (arith, r.0)) rest
      go rest false = (r.0, rest)

  pub rising_append : (low : ℕ) (xs ys : List (Seated T)) (mid next : ℕ) → Rising low xs mid → Rising mid ys next → Rising low (xs ++ ys) next
  rising_append low [] ys mid next r s = lower mid low ys next r s
  rising_append low (x ∷ xs) ys mid next r s = (r.0, rising_append (suc x.number) xs ys mid next r.1 s)

  pub rising_new : (seated : T → ℕ → Option ℕ → T) (p n : ℕ) (bs : List (NewBranch T)) → Rising n (G.new_seats seated p n bs) (n + length bs)
  rising_new seated p n [] = omega arith
  rising_new seated p n (b ∷ bs) = (omega arith, subst (λ m. Rising (suc n) (G.new_seats seated p (suc n) bs) m) (let e : suc n + length bs ≡ n + length (b ∷ bs) = omega arith in e) (rising_new seated p (suc n) bs))

  -- only thread 0 has no parent
  pub script_with : (f : Seated T → Seated T) → ((x : Seated T) → (f x).number ≡ x.number) → ((x : Seated T) → (f x).parent ≡ x.parent) → (n : ℕ) (xs : List (Seated T)) → OnlyScript xs → OnlyScript (G.with_seat f n xs)
  script_with f k p n [] s = tt
  script_with f k p n (x ∷ xs) s = (go (nat_eq x.number n), script_with f k p n xs s.1)
    where
      go : (b : Bool) → (if b then f x else x).parent ≡ None → (if b then f x else x).number ≡ 0
      go true e = k x ∙ s.0 (sym (p x) ∙ e)
      go false e = s.0 e

  pub script_without : (n : ℕ) (xs : List (Seated T)) → OnlyScript xs → OnlyScript (G.without_seat n xs)
  script_without n [] s = tt
  script_without n (x ∷ xs) s = go (script_without n xs s.1) (nat_eq x.number n)
    where
      go : OnlyScript (G.without_seat n xs) → (b : Bool) → OnlyScript (if not b then x ∷ G.without_seat n xs else G.without_seat n xs)
      go rest true = rest
      go rest false = (s.0, rest)

  pub script_append : (xs ys : List (Seated T)) → OnlyScript xs → OnlyScript ys → OnlyScript (xs ++ ys)
  script_append [] ys s r = r
  script_append (x ∷ xs) ys s r = (s.0, script_append xs ys s.1 r)

  pub script_new : (seated : T → ℕ → Option ℕ → T) (p n : ℕ) (bs : List (NewBranch T)) → OnlyScript (G.new_seats seated p n bs)
  script_new seated p n [] = tt
  script_new seated p n (b ∷ bs) = ((λ e. absurd (cc e)), script_new seated p (suc n) bs)

  script_at : (xs : List (Seated T)) (i : ℕ) (x : Seated T) → OnlyScript xs → slice_get xs i ≡ Some x → x.parent ≡ None → x.number ≡ 0
  script_at [] i x s e p = absurd (cc e)
  script_at (z ∷ zs) zero x s e p = let q : z ≡ x = cc e in subst (λ (u : Seated T). u.parent ≡ None → u.number ≡ 0) q s.0 p
  script_at (z ∷ zs) (suc i) x s e p = script_at zs i x s.1 e p

  -- so it stands first
  pub script_first : (xs : List (Seated T)) (next i : ℕ) (x : Seated T) → Rising 0 xs next → OnlyScript xs → slice_get xs i ≡ Some x → x.parent ≡ None → slice_get xs 0 ≡ Some x
  script_first xs next zero x r s e p = e
  script_first [] next (suc i) x r s e p = absurd (cc e)
  script_first (z ∷ zs) next (suc i) x r s e p = let q : ⊥ = omega (arith, script_at zs i x s.1 e p, at_least (suc z.number) zs next i x r.1 e) in absurd q

module _ {T : Type 0} (stance : T → Stance) (setting : Setting) where
  -- seats and threads, changed alike
  pub matches_length : (xs : List (Seated T)) (hs : List Thread) → Matches stance setting xs hs → length xs ≡ length hs
  matches_length [] [] m = refl
  matches_length [] (h ∷ hs) m = absurd m
  matches_length (x ∷ xs) [] m = absurd m
  matches_length (x ∷ xs) (h ∷ hs) m = ap suc (matches_length xs hs m.1)

  pub matches_heads : (xs : List (Seated T)) (hs : List Thread) → Matches stance setting xs hs → map (λ t. t.head) hs ≡ heads stance xs
  matches_heads [] [] m = refl
  matches_heads [] (h ∷ hs) m = absurd m
  matches_heads (x ∷ xs) [] m = absurd m
  matches_heads (x ∷ xs) (h ∷ hs) m = ap (λ n. n ∷ map (λ t. t.head) hs) (sym m.0.stands.head) ∙ ap (λ ns. (stance x.thread).own.head ∷ ns) (matches_heads xs hs m.1)

  pub same_if : (f : Seated T → Seated T) (k : Thread → Thread) (n : ℕ) (x : Seated T) (h : Thread) → Same stance setting x h → (x.number ≡ n → Same stance setting (f x) (k h)) → Same stance setting (G.seat_if f n x) (if nat_eq h.own.number n then k h else h)
  same_if f k n x h s there = go (nat_eq x.number n) refl
    where
      go : (b : Bool) → nat_eq x.number n ≡ b → Same stance setting (G.seat_if f n x) (if nat_eq h.own.number n then k h else h)
      go true e =
          let e' : nat_eq h.own.number n ≡ true = ap (λ m. nat_eq m n) (sym s.number) ∙ e in
          subst (λ u. Same stance setting u (if nat_eq h.own.number n then k h else h)) (sym (ap (λ b. if b then f x else x) e))
          (subst (λ u. Same stance setting (f x) u) (sym (ap (λ b. if b then k h else h) e')) (there (eqb-true x.number n e)))
      go false e =
          let e' : nat_eq h.own.number n ≡ false = ap (λ m. nat_eq m n) (sym s.number) ∙ e in
          subst (λ u. Same stance setting u (if nat_eq h.own.number n then k h else h)) (sym (ap (λ b. if b then f x else x) e))
          (subst (λ u. Same stance setting x u) (sym (ap (λ b. if b then k h else h) e')) s)

  pub matches_both : (f : Seated T → Seated T) (k : Thread → Thread) (n : ℕ) → ((x : Seated T) (h : Thread) → Same stance setting x h → Same stance setting (f x) (k h)) → (xs : List (Seated T)) (hs : List Thread) → Matches stance setting xs hs → Matches stance setting (G.with_seat f n xs) (W.with_thread k n hs)
  matches_both f k n there [] [] m = tt
  matches_both f k n there [] (h ∷ hs) m = absurd m
  matches_both f k n there (x ∷ xs) [] m = absurd m
  matches_both f k n there (x ∷ xs) (h ∷ hs) m = (same_if f k n x h m.0 (λ e. there x h m.0), matches_both f k n there xs hs m.1)

  matches_above : (f : Seated T → Seated T) (k : Thread → Thread) (n low : ℕ) (xs : List (Seated T)) (hs : List Thread) (next : ℕ) → n < low → Rising low xs next → Matches stance setting xs hs → Matches stance setting (G.with_seat f n xs) (W.with_thread k n hs)
  matches_above f k n low [] [] next le r m = tt
  matches_above f k n low [] (h ∷ hs) next le r m = absurd m
  matches_above f k n low (x ∷ xs) [] next le r m = absurd m
  matches_above f k n low (x ∷ xs) (h ∷ hs) next le r m =
      (same_if f k n x h m.0 (λ e. let q : ⊥ = omega (arith, e, r.0, le) in absurd q), matches_above f k n (suc x.number) xs hs next (omega (arith, r.0, le)) r.1 m.1)

  -- the thread at a place is changed
  pub matches_at : (f : Seated T → Seated T) (k : Thread → Thread) (low : ℕ) (xs : List (Seated T)) (hs : List Thread) (next i : ℕ) (x : Seated T) (h : Thread) → Rising low xs next → Matches stance setting xs hs → slice_get xs i ≡ Some x → slice_get hs i ≡ Some h → Same stance setting (f x) (k h) → Matches stance setting (G.with_seat f x.number xs) (W.with_thread k x.number hs)
  matches_at f k low [] hs next i x h r m e d s = absurd (cc e)
  matches_at f k low (z ∷ zs) [] next i x h r m e d s = absurd m
  matches_at f k low (z ∷ zs) (y ∷ ys) next zero x h r m e d s =
      let q : z ≡ x = cc e in
      let p : y ≡ h = cc d in
      let le : x.number < suc z.number = subst (λ (u : Seated T). u.number < suc z.number) q (let o : z.number < suc z.number = omega arith in o) in
      (same_if f k x.number z y m.0 (λ n. subst (λ u. Same stance setting (f u) (k y)) (sym q) (subst (λ u. Same stance setting (f x) (k u)) (sym p) s)), matches_above f k x.number (suc z.number) zs ys next le r.1 m.1)
  matches_at f k low (z ∷ zs) (y ∷ ys) next (suc i) x h r m e d s =
      (same_if f k x.number z y m.0 (λ n. let q : ⊥ = omega (arith, n, at_least (suc z.number) zs next i x r.1 e) in absurd q), matches_at f k (suc z.number) zs ys next i x h r.1 m.1 e d s)

  pub matches_without : (n : ℕ) (xs : List (Seated T)) (hs : List Thread) → Matches stance setting xs hs → Matches stance setting (G.without_seat n xs) (W.without_thread n hs)
  matches_without n [] [] m = tt
  matches_without n [] (h ∷ hs) m = absurd m
  matches_without n (x ∷ xs) [] m = absurd m
  matches_without n (x ∷ xs) (h ∷ hs) m = subst (λ b. Matches stance setting (G.without_seat n (x ∷ xs)) (if not b then h ∷ W.without_thread n hs else W.without_thread n hs)) (ap (λ j. nat_eq j n) m.0.number) (go (matches_without n xs hs m.1) (nat_eq x.number n))
    where
      go : Matches stance setting (G.without_seat n xs) (W.without_thread n hs) → (b : Bool) → Matches stance setting (if not b then x ∷ G.without_seat n xs else G.without_seat n xs) (if not b then h ∷ W.without_thread n hs else W.without_thread n hs)
      go rest true = rest
      go rest false = (m.0, rest)

  pub matches_append : (xs : List (Seated T)) (hs : List Thread) (ys : List (Seated T)) (ks : List Thread) → Matches stance setting xs hs → Matches stance setting ys ks → Matches stance setting (xs ++ ys) (hs ++ ks)
  matches_append [] [] ys ks m n = n
  matches_append [] (h ∷ hs) ys ks m n = absurd m
  matches_append (x ∷ xs) [] ys ks m n = absurd m
  matches_append (x ∷ xs) (h ∷ hs) ys ks m n = (m.0, matches_append xs hs ys ks m.1 n)

  -- the first ready
  pub record Found (u : G.Turn T) (xs : List (Seated T)) (hs : List Thread) : Type 0 where
    pub place : ℕ
    pub thread : Thread
    pub first : W.first_ready hs ≡ Some (record { thread = thread; answer = u.answer })
    pub at : slice_get xs place ≡ Some u.seat
    pub at' : slice_get hs place ≡ Some thread
    pub same : Same stance setting u.seat thread

  found_later : (u : G.Turn T) (x : Seated T) (h : Thread) (xs : List (Seated T)) (hs : List Thread) → W.first_ready (h ∷ hs) ≡ W.first_ready hs → Found u xs hs → Found u (x ∷ xs) (h ∷ hs)
  found_later u x h xs hs e f = record { place = suc f.place; thread = f.thread; first = e ∙ f.first; at = f.at; at' = f.at'; same = f.same }

  pub matches_first : (xs : List (Seated T)) (hs : List Thread) (u : G.Turn T) → Matches stance setting xs hs → G.first_ready xs ≡ Some u → Found u xs hs
  matches_first [] hs u m e = absurd (cc e)
  matches_first (x ∷ xs) [] u m e = absurd m
  matches_first (x ∷ xs) (h ∷ hs) u m e = go (λ d. matches_first xs hs u m.1 d) x.wait refl e
    where
      turn_is : (w : Wait) → x.wait ≡ w → W.first_ready (h ∷ hs) ≡ W.turn_if h w (W.first_ready hs)
      turn_is w k = ap (λ v. W.turn_if h v (W.first_ready hs)) (sym m.0.wait ∙ k)

      go : (G.first_ready xs ≡ Some u → Found u xs hs) → (w : Wait) → x.wait ≡ w → G.turn_if x w (G.first_ready xs) ≡ Some u → Found u (x ∷ xs) (h ∷ hs)
      go below (Ready a) k d =
          let q : (record { seat = x; answer = a }) ≡ u = cc d in
          subst (λ v. Found v (x ∷ xs) (h ∷ hs)) q (record { place = 0; thread = h; first = turn_is (Ready a) k; at = refl; at' = refl; same = m.0 })
      go below (RequestWait r) k d = found_later u x h xs hs (turn_is (RequestWait r) k) (below d)
      go below (BranchesWait js) k d = found_later u x h xs hs (turn_is (BranchesWait js) k) (below d)

  pub matches_none : (xs : List (Seated T)) (hs : List Thread) → Matches stance setting xs hs → G.first_ready xs ≡ None → W.first_ready hs ≡ None
  matches_none [] [] m e = refl
  matches_none [] (h ∷ hs) m e = absurd m
  matches_none (x ∷ xs) [] m e = absurd m
  matches_none (x ∷ xs) (h ∷ hs) m e = go (λ d. matches_none xs hs m.1 d) x.wait refl e
    where
      go : (G.first_ready xs ≡ None → W.first_ready hs ≡ None) → (w : Wait) → x.wait ≡ w → G.turn_if x w (G.first_ready xs) ≡ None → W.first_ready (h ∷ hs) ≡ None
      go below (Ready a) k d = absurd (cc d)
      go below (RequestWait r) k d = ap (λ v. W.turn_if h v (W.first_ready hs)) (sym m.0.wait ∙ k) ∙ below d
      go below (BranchesWait js) k d = ap (λ v. W.turn_if h v (W.first_ready hs)) (sym m.0.wait ∙ k) ∙ below d

  pub heads_both : (f : Seated T → Seated T) (k : Thread → Thread) (n hd : ℕ) → ((z : Seated T) → (stance (f z).thread).own.head ≡ hd) → ((y : Thread) → (k y).head ≡ hd) → (xs : List (Seated T)) (hs : List Thread) → Matches stance setting xs hs → map (λ t. t.head) (W.with_thread k n hs) ≡ heads stance (G.with_seat f n xs)
  heads_both f k n hd ef ek [] [] m = refl
  heads_both f k n hd ef ek [] (h ∷ hs) m = absurd m
  heads_both f k n hd ef ek (x ∷ xs) [] m = absurd m
  heads_both f k n hd ef ek (x ∷ xs) (h ∷ hs) m =
      ap (λ j. j ∷ map (λ t. t.head) (W.with_thread k n hs)) (ap (λ j. (if nat_eq j n then k h else h).head) (sym m.0.number) ∙ go (nat_eq x.number n))
      ∙ ap (λ js. (stance (G.seat_if f n x).thread).own.head ∷ js) (heads_both f k n hd ef ek xs hs m.1)
    where
      go : (b : Bool) → (if b then k h else h).head ≡ (stance (if b then f x else x).thread).own.head
      go true = ek h ∙ sym (ef x)
      go false = sym m.0.stands.head

-- changes of one thread, one behind the other
pub with_with : (f k : Thread → Thread) (n : ℕ) → ((y : Thread) → (k y).own.number ≡ n) → (hs : List Thread) → W.with_thread f n (W.with_thread k n hs) ≡ W.with_thread (λ y. f (k y)) n hs
with_with f k n e [] = refl
with_with f k n e (h ∷ hs) = ap (λ u. u ∷ W.with_thread f n (W.with_thread k n hs)) (go (nat_eq h.own.number n) refl) ∙ ap (λ us. (if nat_eq h.own.number n then f (k h) else h) ∷ us) (with_with f k n e hs)
  where
    go : (b : Bool) → nat_eq h.own.number n ≡ b → (if nat_eq (if b then k h else h).own.number n then f (if b then k h else h) else (if b then k h else h)) ≡ (if b then f (k h) else h)
    go true q = ap (λ b. if b then f (k h) else k h) (eq-eqb (k h).own.number n (e h))
    go false q = ap (λ b. if b then f h else h) q

pub same_length : (k : Thread → Thread) (n : ℕ) (hs : List Thread) → length (W.with_thread k n hs) ≡ length hs
same_length k n [] = refl
same_length k n (h ∷ hs) = ap suc (same_length k n hs)

-- a script that ended
pub script_is : (e : Ending) (o : Outcome) (hd : ℕ) (u : Common) (b : W.Build) → W.outcome_of e ≡ o → W.script_ended e hd u b ≡ W.finish (hd ∷ []) (causes o u.cells) (end_result o u.result u.cells) u b
script_is (Normal v) o hd u b q = ap (λ p. W.finish (hd ∷ []) (causes p u.cells) (end_result p u.result u.cells) u b) q
script_is (Thrown c) o hd u b q = ap (λ p. W.finish (hd ∷ []) (causes p u.cells) (end_result p u.result u.cells) u b) q
script_is (Returned v) o hd u b q = ap (λ p. W.finish (hd ∷ []) (causes p u.cells) (end_result p u.result u.cells) u b) q
script_is Broke o hd u b q = ap (λ p. W.finish (hd ∷ []) (causes p u.cells) (end_result p u.result u.cells) u b) q
script_is Continued o hd u b q = ap (λ p. W.finish (hd ∷ []) (causes p u.cells) (end_result p u.result u.cells) u b) q
script_is (Declared x) o hd u b q = ap (λ p. W.finish (hd ∷ []) (causes p u.cells) (end_result p u.result u.cells) u b) q
script_is (Answered x) o hd u b q = ap (λ p. W.finish (hd ∷ []) (causes p u.cells) (end_result p u.result u.cells) u b) q

-- where none is ready, the definition rests too
pub rests : (n : ℕ) (setting : Setting) (b : W.Build) → W.first_ready b.threads ≡ None → W.settle n setting b ≡ b
unfolding W.settle
rests zero setting b e = refl
rests (suc n) setting b e = ap (λ o. W.take_turn (λ c. W.settle n setting c) setting b o) e

pub takes : (n : ℕ) (setting : Setting) (b : W.Build) (h : Thread) (a : Answer) → W.first_ready b.threads ≡ Some (record { thread = h; answer = a }) → W.settle (suc n) setting b ≡ W.settle n setting (W.resumed setting (W.given_answer b.shared a h) b)
unfolding W.settle
takes n setting b h a e = ap (λ o. W.take_turn (λ c. W.settle n setting c) setting b o) e

module _ {T : Type 0} (stance : T → Stance) where
  pub stands_later : (setting : Setting) (t : Stance) (h : Thread) (rs : List _) (r : _) → StandsAt setting t h (r ∷ []) → StandsAt setting t h (rs ++ r ∷ [])
  stands_later setting t h [] r k = k
  stands_later setting t h (q ∷ rs) r k = k

  pub names_are : (own : Own) (n : ℕ) (bs : List (NewBranch T)) (ds : List Branch) → AllNew stance own bs ds → G.new_joins n bs ≡ W.joins_of n ds
  names_are own n [] [] a = refl
  names_are own n [] (d ∷ ds) a = absurd a
  names_are own n (b ∷ bs) [] a = absurd a
  names_are own n (b ∷ bs) (d ∷ ds) a = ap (λ m. (record { name = m; thread = n; ended = None }) ∷ G.new_joins (suc n) bs) a.0.name_is ∙ ap (λ js. (record { name = d.name; thread = n; ended = None }) ∷ js) (names_are own (suc n) bs ds a.1)

  pub many_are : (own : Own) (bs : List (NewBranch T)) (ds : List Branch) → AllNew stance own bs ds → length bs ≡ length ds
  many_are own [] [] a = refl
  many_are own [] (d ∷ ds) a = absurd a
  many_are own (b ∷ bs) [] a = absurd a
  many_are own (b ∷ bs) (d ∷ ds) a = ap suc (many_are own bs ds a.1)

  pub matches_new : (seated : T → ℕ → Option ℕ → T) → ((t : T) (n : ℕ) (q : Option ℕ) → stance (seated t n q) ≡ seated_as n q (stance t)) → (setting : Setting) (p n : ℕ) (own : Own) (bs : List (NewBranch T)) (ds : List Branch) → AllNew stance own bs ds → Matches stance setting (G.new_seats seated p n bs) (W.branch_threads p own n ds)
  matches_new seated is setting p n own [] [] a = tt
  matches_new seated is setting p n own [] (d ∷ ds) a = absurd a
  matches_new seated is setting p n own (b ∷ bs) [] a = absurd a
  matches_new seated is setting p n own (b ∷ bs) (d ∷ ds) a =
      let x : Stance = stance b.thread in (
        record {
          number = refl;
          parent = refl;
          wait = refl;
          stands = subst (λ y. StandsFor setting y (W.branch_thread p own n d)) (sym (is b.thread n (Some p)))
              (record {
                number = refl;
                parent = refl;
                head = a.0.head;
                at = (
                  a.0.runs,
                  ap (λ k. record { number = n; head = k; context = x.own.context; calls = x.own.calls }) a.0.head
                      ∙ ap (λ k. record { number = n; head = d.head; context = k; calls = x.own.calls }) a.0.context
                      ∙ ap (λ k. record { number = n; head = d.head; context = own.context; calls = k }) a.0.calls,
                );
              });
        },
        matches_new seated is setting p (suc n) own bs ds a.1,
      )
