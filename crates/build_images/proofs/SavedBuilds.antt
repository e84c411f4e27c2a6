-- The image of a build's parts is that of each build of the definitions that it stands for; and it is ordered.
use Rattle.std.proofs.Common.{◌≡◌, ◌≤◌, ◌+◌, ◌∙◌, ℕ, Bool, true, false, List, [], ◌∷◌, length, map, Option, None, refl, sym, ap, subst}
use Rattle.std.specs.List.{AllByRecursion as AllAre}
use Rattle.model_values.proofs.LaterLaws.{all_weaker}
use Rattle.model_run.specs.declared.wait.Wait.{Wait}
use Rattle.model_run.specs.declared.wait.Wait.TheVariants.{Ready, Request as RequestWait, Branches as BranchesWait}
use Rattle.model_run.specs.Fitting.{FitsAtRest, IsWaitedFor, NotReady, Rise, Seat, SeatFits, SharedFits, seats_of}
use Rattle.model_run.specs.State.{Common}
use Rattle.model_run.specs.Terms.{Term}
use Rattle.model_run.specs.Threads.{Runs}
use Rattle.model_run.specs.World as W
use Rattle.green_threads.specs.declared.runner.Seated.{Seated}
use Rattle.green_threads.specs.Threads.{Threads}
use Rattle.settle_laws.specs.Stances.{Stance}
use Rattle.cps_code.specs.Script.{script_of}
use Rattle.saved_thread.specs.Lower.cps_frames.declared.shared.Shared.{Shared}
use Rattle.saved_thread.specs.Lower.cps_frames.Standing.{common_of, setting_of}
use Rattle.image_form.specs.declared.image.ImageThread.{ImageThread}
use Rattle.saved_thread.specs.Lower.thread_fits.Seats.{HasBegun, as_seat, closure_of}
use Rattle.saved_thread.specs.Saving.{AtNodes, Storable, thread_told}
use Rattle.build_core.specs.declared.phase.Phase.{Phase}
use Rattle.build_core.specs.declared.phase.Phase.TheVariants.{Unbegun, Running, Ended, Stopped}
use Rattle.build_core.specs.Builds.{Parts, StandsFor, setting_in}
use Rattle.build_core.specs.Phases.{IsDone, SoundIn, has_begun, has_ended, shown}
use Rattle.build_images.specs.Images.{IsOrdered, IsWhole, image_in, image_told, world_image}
use Rattle.build_images.proofs.Parts.{all_rest, numbers_rise}
use Rattle.build_images.proofs.Seats.{Clear, frames_found, seats_same}
use Rattle.build_images.proofs.Uncounted.{shared_anew}
use Rattle.build_images.proofs.Whole.{IsCleared, whole_image}

pub shown_is : (p : Phase) (u : Common) → has_begun p ≡ true → shown p u ≡ u
shown_is Unbegun u e = absurd (cc e)
shown_is Running u e = refl
shown_is Ended u e = refl
shown_is Stopped u e = refl

runs_none : (w : Wait) (o : Option Runs) → NotReady w → HasBegun w o → o ≡ None
runs_none (Ready x) o rests begun = absurd rests
runs_none (RequestWait r) o rests begun = begun
runs_none (BranchesWait js) o rests begun = begun

module _ {T : Type 0} (stance : T → Stance) where
  -- A thread that may be put into an image: it has begun, it waits, and its frames stand at nodes of the script.
  pub record MaySave (u : Shared) (x : Seated T) : Type 0 where
    pub runs : (stance x.thread).runs ≡ None
    pub rests : NotReady x.wait
    pub nodes : AtNodes (script_of u.code) (stance x.thread).frames

  both : (u : Shared) (xs : List (Seated T)) → AllAre (λ (x : Seated T). Storable (script_of u.code) x.wait (stance x.thread)) xs → AllAre (λ (x : Seated T). NotReady x.wait) xs → AllAre (MaySave u) xs
  both u [] s r = tt
  both u (x ∷ xs) s r = (record { runs = runs_none x.wait (stance x.thread).runs r.0 (s.0).begun; rests = r.0; nodes = (s.0).nodes }, both u xs s.1 r.1)

  none_left : (u : Shared) (xs : List (Seated T)) → xs ≡ [] → AllAre (MaySave u) xs
  none_left u [] e = tt
  none_left u (x ∷ xs) e = absurd (cc e)

  module _ (number : T → ℕ) (parent : T → Option ℕ) (branch : T → Bool) (fits : List (Seated T) → Shared → Type 0)
      (storable : (xs : List (Seated T)) (u : Shared) → fits xs u → AllAre (λ (x : Seated T). Storable (script_of u.code) x.wait (stance x.thread)) xs)
      (sound : (xs : List (Seated T)) (u : Shared) → fits xs u → SharedFits (setting_of u) false (common_of u)) where
    -- the threads of a build that has begun
    pub threads_ready : (p : Phase) (g : Threads T) (u : Shared) → has_begun p ≡ true → (p ≡ Stopped → ⊥) → SoundIn number parent branch fits p g u → AllAre (MaySave u) g.seats
    threads_ready Unbegun g u begun goes s = absurd (cc begun)
    threads_ready Running g u begun goes s = both u g.seats (storable g.seats u s.fit) (all_rest stance g.seats s.few)
    threads_ready Ended g u begun goes s = none_left u g.seats s.threads
    threads_ready Stopped g u begun goes s = absurd (goes refl)

    pub at_nodes : (p : Phase) (g : Threads T) (u : Shared) → has_begun p ≡ true → (p ≡ Stopped → ⊥) → SoundIn number parent branch fits p g u → AllAre (λ (x : Seated T). AtNodes (script_of u.code) (stance x.thread).frames) g.seats
    at_nodes p g u begun goes s = all_weaker (MaySave u) (λ (x : Seated T). AtNodes (script_of u.code) (stance x.thread).frames) (λ x r. r.nodes) g.seats (threads_ready p g u begun goes s)

    shared_sound : (p : Phase) (g : Threads T) (u : Shared) → has_begun p ≡ true → (p ≡ Stopped → ⊥) → SoundIn number parent branch fits p g u → SharedFits (setting_of u) (has_ended p) (common_of u)
    shared_sound Unbegun g u begun goes s = absurd (cc begun)
    shared_sound Running g u begun goes s = sound g.seats u s.fit
    shared_sound Ended g u begun goes s = s.sound
    shared_sound Stopped g u begun goes s = absurd (goes refl)

    numbers : (p : Phase) (g : Threads T) (u : Shared) → has_begun p ≡ true → (p ≡ Stopped → ⊥) → SoundIn number parent branch fits p g u → Rise 0 g.next (map (λ (x : Seated T). x.number) g.seats)
    numbers Unbegun g u begun goes s = absurd (cc begun)
    numbers Running g u begun goes s = (numbers_rise number parent branch 0 g.next g.seats s.grouped).1
    numbers Ended g u begun goes s = subst (λ (xs : List (Seated T)). Rise 0 g.next (map (λ (x : Seated T). x.number) xs)) (sym s.threads) tt
    numbers Stopped g u begun goes s = absurd (goes refl)

    told_numbers : (root : Term) (xs : List (Seated T)) → map (λ (t : ImageThread). t.number) (map (thread_told root) (map (as_seat stance) xs)) ≡ map (λ (x : Seated T). x.number) xs
    told_numbers root [] = refl
    told_numbers root (x ∷ xs) = ap (λ ns. x.number ∷ ns) (told_numbers root xs)

    told_rest : (root : Term) (u : Shared) (xs : List (Seated T)) → AllAre (MaySave u) xs → AllAre (λ (t : ImageThread). NotReady t.wait) (map (thread_told root) (map (as_seat stance) xs))
    told_rest root u [] h = tt
    told_rest root u (x ∷ xs) h = ((h.0).rests, told_rest root u xs h.1)

    pub ordered : (b : Parts T) → has_begun b.phase ≡ true → (b.phase ≡ Stopped → ⊥) → SoundIn number parent branch fits b.phase b.group b.shared → IsOrdered (setting_in b) (image_in stance b)
    ordered b begun goes s = record {
      shared = shared_anew (common_of b.shared) (setting_in b) (has_ended b.phase) (shared_sound b.phase b.group b.shared begun goes s);
      numbers = subst (Rise 0 b.group.next) (sym (told_numbers (script_of b.shared.code) b.group.seats)) (numbers b.phase b.group b.shared begun goes s);
      rests = told_rest (script_of b.shared.code) b.shared b.group.seats (threads_ready b.phase b.group b.shared begun goes s);
    }

    -- the threads of a build that has begun are as the check of its image asks
    module _ (rested : (xs : List (Seated T)) (u : Shared) (next : ℕ) → fits xs u → Rise 0 next (map (λ (x : Seated T). x.number) xs) → next ≤ 100000000 + length u.graph → AllAre (λ (x : Seated T). NotReady x.wait) xs → FitsAtRest (setting_of u) false (common_of u) next (map (as_seat stance) xs)) where
      over_at_rest : (g : Threads T) (u : Shared) → IsDone g u → FitsAtRest (setting_of u) true (common_of u) g.next (map (as_seat stance) g.seats)
      over_at_rest g u s = subst (λ (xs : List (Seated T)). FitsAtRest (setting_of u) true (common_of u) g.next (map (as_seat stance) xs)) (sym s.threads)
          (record { fits = record { shared = s.sound; numbers = tt; few_threads = s.few_threads; main = λ e. absurd (cc e); threads = tt; differ = tt; waited_for = subst (AllAre (IsWaitedFor [])) (sym s.requests) tt }; rests = tt })

      at_rest : (p : Phase) (g : Threads T) (u : Shared) → has_begun p ≡ true → (p ≡ Stopped → ⊥) → SoundIn number parent branch fits p g u → FitsAtRest (setting_of u) (has_ended p) (common_of u) g.next (map (as_seat stance) g.seats)
      at_rest Unbegun g u begun goes s = absurd (cc begun)
      at_rest Running g u begun goes s = rested g.seats u g.next s.fit (numbers_rise number parent branch 0 g.next g.seats s.grouped).1 s.few_threads (all_rest stance g.seats s.few)
      at_rest Ended g u begun goes s = over_at_rest g u s
      at_rest Stopped g u begun goes s = absurd (goes refl)

      nothing_over : (p : Phase) (g : Threads T) (u : Shared) → SoundIn number parent branch fits p g u → has_ended p ≡ true → IsCleared (common_of u) (map (as_seat stance) g.seats)
      nothing_over Ended g u s over = record { threads = ap (map (as_seat stance)) s.threads; requests = s.requests; held = s.held }
      nothing_over Unbegun g u s over = absurd (cc over)
      nothing_over Running g u s over = absurd (cc over)
      nothing_over Stopped g u s over = absurd (cc over)

      clear_from : (u : Shared) (all : List Seat) (xs : List (Seated T)) → AllAre (SeatFits (setting_of u) (common_of u) all) (map (as_seat stance) xs) → AllAre (MaySave u) xs → AllAre (Clear (script_of u.code)) (map (as_seat stance) xs)
      clear_from u all [] fit may = tt
      clear_from u all (x ∷ xs) fit may = (record { frames = frames_found (setting_of u) (common_of u) all (as_seat stance x) fit.0; start = ap closure_of (may.0).runs }, clear_from u all xs fit.1 may.1)

      -- So its image passes the check, and where it has ended nothing is left.
      pub whole : (b : Parts T) → has_begun b.phase ≡ true → (b.phase ≡ Stopped → ⊥) → SoundIn number parent branch fits b.phase b.group b.shared → IsWhole (setting_in b) (image_in stance b)
      whole b begun goes s =
          let fit : FitsAtRest (setting_of b.shared) (has_ended b.phase) (common_of b.shared) b.group.next (map (as_seat stance) b.group.seats) = at_rest b.phase b.group b.shared begun goes s in
          whole_image (setting_in b) (common_of b.shared) b.group.next (has_ended b.phase) (map (as_seat stance) b.group.seats)
          (clear_from b.shared (map (as_seat stance) b.group.seats) b.group.seats fit.fits.threads (threads_ready b.phase b.group b.shared begun goes s)) fit (nothing_over b.phase b.group b.shared s)

  -- of each build of the definitions that it stands for
  pub image_is : (b : Parts T) (w : W.Build) → has_begun b.phase ≡ true → AllAre (MaySave b.shared) b.group.seats → StandsFor stance b w → image_in stance b ≡ world_image (setting_in b) w
  image_is b w begun all st =
      let root = script_of b.shared.code in
      let same : map (as_seat stance) b.group.seats ≡ seats_of (setting_in b) w.threads = seats_same stance (setting_in b) b.group.seats w.threads st.stand.threads (all_weaker (MaySave b.shared) (λ (x : Seated T). (stance x.thread).runs ≡ None) (λ x r. r.runs) b.group.seats all) in
      let shared : record w.shared { count = b.shared.count } ≡ common_of b.shared = st.stand.shared ∙ shown_is b.phase (common_of b.shared) begun in
      ap (λ ts. image_told root (common_of b.shared) b.group.next (has_ended b.phase) ts) same
      ∙ ap (λ (u : Common). image_told root u b.group.next (has_ended b.phase) (seats_of (setting_in b) w.threads)) (sym shared)
      ∙ ap (λ n. image_told root w.shared n (has_ended b.phase) (seats_of (setting_in b) w.threads)) (sym st.stand.next)
      ∙ ap (λ e. image_told root w.shared w.next_thread e (seats_of (setting_in b) w.threads)) (sym st.ended)
