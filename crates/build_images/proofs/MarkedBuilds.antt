-- A build that is marked stands for what it stood for, and has the image that it had.
use Rattle.std.proofs.Common.{◌≡◌, ◌∙◌, ℕ, suc, List, [], ◌∷◌, map, refl, sym, ap, subst}
use Rattle.model_run.specs.Fitting.{Seat}
use Rattle.model_run.specs.State.{Setting}
use Rattle.model_run.specs.Threads.{Thread}
use Rattle.model_run.specs.World as W
use Rattle.green_threads.specs.declared.runner.Seated.{Seated}
use Rattle.green_threads.specs.Threads.{marked_group, marked_in}
use Rattle.settle_laws.specs.Stances.{Stance, StandsFor as ThreadStandsFor}
use Rattle.settle_laws.specs.Standing.{Matches, OnlyScript, Rising}
use Rattle.cps_code.specs.Script.{script_of}
use Rattle.saved_thread.specs.Lower.cps_frames.Standing.{common_of}
use Rattle.saved_thread.specs.Lower.script_thread.Marks.{marked}
use Rattle.saved_thread.specs.Lower.thread_fits.Seats.{as_seat, closure_of}
use Rattle.build_core.specs.Builds.{Parts, StandsFor, setting_in}
use Rattle.build_core.specs.Phases.{has_ended}
use Rattle.build_images.specs.Images.{HasImage, IsOrdered, IsWhole, image_in, image_told}

abbrev pub marked_build : {T : Type 0} → (T → T) → Parts T → Parts T
marked_build marks b = record b { group = marked_group marks b.group; shared = marked b.shared }

module _ {T : Type 0} (stance : T → Stance) (marks : T → T) (same : (t : T) → stance (marks t) ≡ stance t) where
  -- a row by what the definitions see of its thread
  abbrev row : Seated T → Stance → Seat
  row x s = record { number = x.number; parent = x.parent; head = s.own.head; wait = x.wait; context = s.own.context; stack = s.frames; start = closure_of s.runs }

  rows_marked : (xs : List (Seated T)) → map (as_seat stance) (map (marked_in marks) xs) ≡ map (as_seat stance) xs
  rows_marked [] = refl
  rows_marked (x ∷ xs) = ap (λ (s : Stance). row x s ∷ map (as_seat stance) (map (marked_in marks) xs)) (same x.thread) ∙ ap (λ (rs : List Seat). as_seat stance x ∷ rs) (rows_marked xs)

  rising_marked : (low : ℕ) (xs : List (Seated T)) (next : ℕ) → Rising low xs next → Rising low (map (marked_in marks) xs) next
  rising_marked low [] next h = h
  rising_marked low (x ∷ xs) next h = (h.0, rising_marked (suc x.number) xs next h.1)

  rising_before : (low : ℕ) (xs : List (Seated T)) (next : ℕ) → Rising low (map (marked_in marks) xs) next → Rising low xs next
  rising_before low [] next h = h
  rising_before low (x ∷ xs) next h = (h.0, rising_before (suc x.number) xs next h.1)

  script_marked : (xs : List (Seated T)) → OnlyScript xs → OnlyScript (map (marked_in marks) xs)
  script_marked [] h = tt
  script_marked (x ∷ xs) h = (h.0, script_marked xs h.1)

  script_before : (xs : List (Seated T)) → OnlyScript (map (marked_in marks) xs) → OnlyScript xs
  script_before [] h = tt
  script_before (x ∷ xs) h = (h.0, script_before xs h.1)

  matches_marked : (setting : Setting) (xs : List (Seated T)) (hs : List Thread) → Matches stance setting xs hs → Matches stance setting (map (marked_in marks) xs) hs
  matches_marked setting [] [] m = tt
  matches_marked setting [] (h ∷ hs) m = absurd m
  matches_marked setting (x ∷ xs) [] m = absurd m
  matches_marked setting (x ∷ xs) (h ∷ hs) m =
      (record { number = m.0.number; parent = m.0.parent; wait = m.0.wait; stands = subst (λ (s : Stance). ThreadStandsFor setting s h) (sym (same x.thread)) m.0.stands }, matches_marked setting xs hs m.1)

  matches_before : (setting : Setting) (xs : List (Seated T)) (hs : List Thread) → Matches stance setting (map (marked_in marks) xs) hs → Matches stance setting xs hs
  matches_before setting [] [] m = tt
  matches_before setting [] (h ∷ hs) m = absurd m
  matches_before setting (x ∷ xs) [] m = absurd m
  matches_before setting (x ∷ xs) (h ∷ hs) m =
      (record { number = m.0.number; parent = m.0.parent; wait = m.0.wait; stands = subst (λ (s : Stance). ThreadStandsFor setting s h) (same x.thread) m.0.stands }, matches_before setting xs hs m.1)

  pub image_same : (b : Parts T) → image_in stance (marked_build marks b) ≡ image_in stance b
  image_same b = ap (image_told (script_of b.shared.code) (common_of b.shared) b.group.next (has_ended b.phase)) (rows_marked b.group.seats)

  pub stands_marked : (b : Parts T) (w : W.Build) → StandsFor stance b w → StandsFor stance (marked_build marks b) w
  stands_marked b w st = record {
    started = st.started;
    ended = st.ended;
    stand = record {
      shared = st.stand.shared;
      next = st.stand.next;
      rising = rising_marked 0 b.group.seats b.group.next st.stand.rising;
      script = script_marked b.group.seats st.stand.script;
      threads = matches_marked (setting_in b) b.group.seats w.threads st.stand.threads;
    };
  }

  stands_before : (b : Parts T) (w : W.Build) → StandsFor stance (marked_build marks b) w → StandsFor stance b w
  stands_before b w st = record {
    started = st.started;
    ended = st.ended;
    stand = record {
      shared = st.stand.shared;
      next = st.stand.next;
      rising = rising_before 0 b.group.seats b.group.next st.stand.rising;
      script = script_before b.group.seats st.stand.script;
      threads = matches_before (setting_in b) b.group.seats w.threads st.stand.threads;
    };
  }

  pub has_image_marked : (b : Parts T) → HasImage stance b → HasImage stance (marked_build marks b)
  has_image_marked b has = record {
    world = λ w st. image_same b ∙ has.world w (stands_before b w st);
    ordered = subst (λ i. IsOrdered (setting_in b) i) (sym (image_same b)) has.ordered;
    whole = subst (λ i. IsWhole (setting_in b) i) (sym (image_same b)) has.whole;
  }
