-- What an image before an event still has of the threads behind it.
use Rattle.std.proofs.Common.{◌≡◌, ◌∙◌, ◌≤◌, ◌<◌, ◌+◌, ℕ, zero, suc, Bool, true, false, List, [], ◌∷◌, ◌++◌, length, get_or, map, drop, take, Some, None, Result, Ok, Err, refl, sym, ap, subst, arith}
use Rattle.std.specs.Prelude.{IfOk, min, nat_eq, if◌then◌else◌}
use Rattle.std.specs.List.{AllByRecursion as AllAre}
use Rattle.std.proofs.lemmas.Bool.{eqb-true, eq-eqb}
use Rattle.std.proofs.lemmas.List.{length-take, take-append-drop, take-map, take-take}
use Rattle.model_values.proofs.LaterLaws.{all_weaker}
use Rattle.model_run.specs.Fitting.{Rises}
use Rattle.image_form.specs.declared.image.ImageFrame.{ImageFrame}
use Rattle.image_form.specs.declared.image.ImageThread.{ImageThread}
use Rattle.image_changes.specs.Seen.{HasFront, KeepsThread, behind_frames, thread_seen}
use Rattle.image_changes.specs.declared.now.NowThread.{NowThread}
use Rattle.model_run.specs.Terms.{Term}
use Rattle.green_threads.specs.declared.runner.Seated.{Seated}
use Rattle.settle_laws.specs.Stances.{Stance}
use Rattle.saved_thread.specs.Lower.script_thread.Marks.{SameFront, ThreadsStay}
use Rattle.saved_thread.specs.Lower.thread_fits.Seats.{as_seat}
use Rattle.saved_thread.specs.Saving.{frame_told, thread_told, told_from}
use Rattle.build_images.specs.Fronts.{HasStood, HasStoodAs, ThreadsStand, thread_at}
use Rattle.build_images.proofs.Parts.{one_more}

-- a front, and what is behind it
front_whole : {A : Type 0} (m : ℕ) (xs : List A) → take m xs ++ drop (length (take m xs)) xs ≡ xs
front_whole zero xs = refl
front_whole (suc m) [] = refl
front_whole (suc m) (x ∷ xs) = ap (λ ys. x ∷ ys) (front_whole m xs)

shorter_same : {A : Type 0} (m n : ℕ) (xs ys : List A) → m ≤ n → take n xs ≡ take n ys → take m xs ≡ take m ys
shorter_same m n xs ys h same = sym (take-take m n xs h) ∙ ap (take m) same ∙ take-take m n ys h

-- ---- the thread of a number

module _ (n : ℕ) where
  -- what all threads are, it is
  pub thread_is : (P : ImageThread → Type 0) (before : List ImageThread) (t : ImageThread) → thread_at n before ≡ Some t → AllAre P before → (t.number ≡ n) × P t
  thread_is P [] t at all = absurd cc
  thread_is P (x ∷ xs) t at all = go (nat_eq x.number n) refl at (λ is. thread_is P xs t is all.1)
    where
      go : (b : Bool) → nat_eq x.number n ≡ b → (if b then Some x else thread_at n xs) ≡ Some t → (thread_at n xs ≡ Some t → (t.number ≡ n) × P t) → (t.number ≡ n) × P t
      go true e is rest = let same : x ≡ t = cc in subst (λ (y : ImageThread). (y.number ≡ n) × P y) same (eqb-true x.number n e, all.0)
      go false e is rest = rest is

  pub no_thread : (before : List ImageThread) → thread_at n before ≡ None → AllAre (λ (x : ImageThread). x.number ≡ n → ⊥) before
  no_thread [] at = tt
  no_thread (x ∷ xs) at = go (nat_eq x.number n) refl at (no_thread xs)
    where
      go : (b : Bool) → nat_eq x.number n ≡ b → (if b then Some x else thread_at n xs) ≡ None → (thread_at n xs ≡ None → AllAre (λ (y : ImageThread). y.number ≡ n → ⊥) xs) → AllAre (λ (y : ImageThread). y.number ≡ n → ⊥) (x ∷ xs)
      go true e is rest = absurd cc
      go false e is rest = (λ k. let never : true ≡ false = sym (eq-eqb x.number n k) ∙ e in absurd cc, rest is)

-- where numbers rise, it is the only one of this number
above : (n : ℕ) (xs : List ImageThread) → Rises (n ∷ map (λ (t : ImageThread). t.number) xs) → AllAre (λ (x : ImageThread). n < x.number) xs
above n [] h = tt
above n (x ∷ xs) h = (h.0, all_weaker (λ (y : ImageThread). x.number < y.number) (λ (y : ImageThread). n < y.number) (λ y more. omega (arith, more, h.0)) xs (above x.number xs h.1))

rises_on : (n : ℕ) (xs : List ImageThread) → Rises (n ∷ map (λ (t : ImageThread). t.number) xs) → Rises (map (λ (t : ImageThread). t.number) xs)
rises_on n [] h = tt
rises_on n (x ∷ xs) h = h.1

pub one_thread : (n : ℕ) (before : List ImageThread) (t : ImageThread) → thread_at n before ≡ Some t → Rises (map (λ (t : ImageThread). t.number) before) → AllAre (λ (x : ImageThread). x.number ≡ n → x ≡ t) before
one_thread n [] t at rises = tt
one_thread n (x ∷ xs) t at rises = go (nat_eq x.number n) refl at (λ is. one_thread n xs t is (rises_on x.number xs rises))
  where
    go : (b : Bool) → nat_eq x.number n ≡ b → (if b then Some x else thread_at n xs) ≡ Some t → (thread_at n xs ≡ Some t → AllAre (λ (y : ImageThread). y.number ≡ n → y ≡ t) xs) → AllAre (λ (y : ImageThread). y.number ≡ n → y ≡ t) (x ∷ xs)
    go true e is rest =
        let same : x ≡ t = cc in
        (λ k. same, all_weaker (λ (y : ImageThread). x.number < y.number) (λ (y : ImageThread). y.number ≡ n → y ≡ t) (λ y more k. let never : ⊥ = omega (arith, more, k, eqb-true x.number n e) in absurd never) xs (above x.number xs rises))
    go false e is rest = (λ k. let never : true ≡ false = sym (eq-eqb x.number n k) ∙ e in absurd cc, rest is)

-- ---- what is in front

-- the frames that count as untouched are some of those now, and stand in the image
module _ (low : ℕ) (stood now front : List ImageFrame) (same : take low stood ≡ take low now) (is : front ≡ take (min low 4294967295) stood) where
  front_now : front ≡ take (min low 4294967295) now
  front_now = is ∙ shorter_same (min low 4294967295) low stood now (omega arith) same

  pub front_and_more : front ++ drop (length front) now ≡ now
  front_and_more = subst (λ (l : List ImageFrame). l ++ drop (length l) now ≡ now) (sym front_now) (front_whole (min low 4294967295) now)

  pub has_front : (x : ImageThread) → x.frames ≡ stood → HasFront x front
  has_front x of = record {
    few = omega (arith, ap length is, length-take (min low 4294967295) stood);
    front = (drop (min low 4294967295) stood, of ∙ subst (λ (l : List ImageFrame). stood ≡ l ++ drop (min low 4294967295) stood) (sym is) (sym (take-append-drop (min low 4294967295) stood)));
  }

-- a thread is what stands in front and the frames behind
pub behind_whole : (front : List ImageFrame) (told : ImageThread) → front ++ drop (length front) told.frames ≡ told.frames → behind_frames front (told_from (length front) told) ≡ told
behind_whole front told whole = ap (λ (fs : List ImageFrame). record told { frames = fs }) whole

-- what is known of the one that stood is known of each of its number
pub kept_by : (n : ℕ) (before : List ImageThread) (stood : ImageThread) (t : NowThread) → (thread_seen t).number ≡ n → AllAre (λ (x : ImageThread). x.number ≡ n → x ≡ stood) before → KeepsThread stood t
    → AllAre (λ (x : ImageThread). x.number ≡ (thread_seen t).number → KeepsThread x t) before
kept_by n before stood t number one keeps =
    all_weaker (λ (x : ImageThread). x.number ≡ n → x ≡ stood) (λ (x : ImageThread). x.number ≡ (thread_seen t).number → KeepsThread x t) (λ x is e. subst (λ (y : ImageThread). KeepsThread y t) (sym (is (e ∙ number))) keeps) before one

pub kept_new : (n : ℕ) (before : List ImageThread) (t : NowThread) → (thread_seen t).number ≡ n → AllAre (λ (x : ImageThread). x.number ≡ n → ⊥) before → AllAre (λ (x : ImageThread). x.number ≡ (thread_seen t).number → KeepsThread x t) before
kept_new n before t number none = all_weaker (λ (x : ImageThread). x.number ≡ n → ⊥) (λ (x : ImageThread). x.number ≡ (thread_seen t).number → KeepsThread x t) (λ x never e. absurd (never (e ∙ number))) before none

-- two facts of an answer
pub both_ok : {A E : Type 0} (r : Result A E) (P Q R : A → Type 0) → ((a : A) → P a → Q a → R a) → IfOk r P → IfOk r Q → IfOk r R
both_ok (Ok a) P Q R both p q = both a p q
both_ok (Err e) P Q R both p q = tt

-- one thread more
map_last : {A B : Type 0} (f : A → B) (xs : List A) (x : A) → map f (xs ++ x ∷ []) ≡ map f xs ++ f x ∷ []
map_last f [] x = refl
map_last f (y ∷ ys) x = ap (λ zs. f y ∷ zs) (map_last f ys x)

pub one_more_seen : {A B : Type 0} (g : B → ImageThread) (h : A → B) (seats : List A) (i : ℕ) (seat : A) (ts ts' : List NowThread) (t : NowThread) → seat ≡ get_or seats i seat → i < length seats
    → map thread_seen ts ≡ map g (map h (take i seats)) → ts' ≡ ts ++ t ∷ [] → thread_seen t ≡ g (h seat) → map thread_seen ts' ≡ map g (map h (take (i + 1) seats))
one_more_seen g h seats i seat ts ts' t is lt so new told =
    ap (map thread_seen) new ∙ map_last thread_seen ts t ∙ ap (λ (xs : List ImageThread). xs ++ thread_seen t ∷ []) so ∙ ap (λ (x : ImageThread). map g (map h (take i seats)) ++ x ∷ []) told
    ∙ sym (ap (map g) (map_last h (take i seats) seat) ∙ map_last g (map h (take i seats)) (h seat)) ∙ ap (λ xs. map g (map h xs)) (one_more seats i seat (take i seats) (take i seats ++ seat ∷ []) is lt refl refl)

-- Behind an event the image in front of it still has what counts as untouched.
module _ {T : Type 0} (low : T → ℕ) (touched : T → Bool) (stance : T → Stance) (root : Term) where
  stood_told : (y x : Seated T) → x.number ≡ y.number → SameFront low touched stance x.thread y.thread → HasStood low touched stance root y (thread_told root (as_seat stance x))
  stood_told y x number same = record {
    front = take-map (frame_told root) (low y.thread) (stance x.thread).frames ∙ ap (map (frame_told root)) (sym same.front) ∙ sym (take-map (frame_told root) (low y.thread) (stance y.thread).frames);
    same = λ untouched.
        let is : stance y.thread ≡ stance x.thread = same.same untouched in
        ap (λ (n : ℕ). record (thread_told root (as_seat stance x)) { number = n; parent = y.parent; wait = y.wait }) number
        ∙ ap (λ (s : Stance). record (thread_told root (as_seat stance y)) { head = s.own.head; context = s.own.context; frames = map (frame_told root) s.frames }) (sym is);
  }

  all_told : (y : Seated T) (xs : List (Seated T)) → AllAre (λ (x : Seated T). x.number ≡ y.number → SameFront low touched stance x.thread y.thread) xs → AllAre (HasStoodAs low touched stance root y) (map (thread_told root) (map (as_seat stance) xs))
  all_told y [] h = tt
  all_told y (x ∷ xs) h = (λ e. stood_told y x e (h.0 e), all_told y xs h.1)

  pub threads_stand : (xs ys : List (Seated T)) → ThreadsStay low touched stance xs ys → ThreadsStand low touched stance root (map (thread_told root) (map (as_seat stance) xs)) ys
  threads_stand xs ys stay =
      all_weaker (λ (y : Seated T). AllAre (λ (x : Seated T). x.number ≡ y.number → SameFront low touched stance x.thread y.thread) xs) (λ (y : Seated T). AllAre (HasStoodAs low touched stance root y) (map (thread_told root) (map (as_seat stance) xs))) (λ y h. all_told y xs h) ys stay
