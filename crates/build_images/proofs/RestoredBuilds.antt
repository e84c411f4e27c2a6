-- A build of the parts that an image tells of is sound, has this image, and stands for the world of each list of events that has it.
use Rattle.std.proofs.Common.{◌≡◌, ◌∙◌, ◌<◌, ℕ, Bool, true, false, List, [], ◌∷◌, map, length, Option, refl, sym, ap, subst, arith}
use Rattle.std.specs.Prelude.{not, ◌&&◌}
use Rattle.std.specs.List.{AllByRecursion as AllAre}
use Rattle.model_run.specs.declared.event.Event.{Event}
use Rattle.model_run.specs.Fitting.{FitsAtRest, ParentFits, Rise, Seat, SeatFits, seats_of}
use Rattle.model_run.specs.Nesting.{FrameFits, Sorts}
use Rattle.model_run.specs.State.{Common, Setting}
use Rattle.model_run.specs.Terms.{Term, nodes_of}
use Rattle.model_run.specs.World as W
use Rattle.fit_laws.proofs.SharedStates.{limits_narrow}
use Rattle.green_threads.specs.declared.runner.Seated.{Seated}
use Rattle.green_threads.specs.Grouping.{Grouped, IsSeated}
use Rattle.settle_laws.specs.Stances.{Stance}
use Rattle.settle_laws.specs.Standing.{OnlyScript}
use Rattle.cps_code.specs.Script.{IsScript, script_of}
use Rattle.saved_thread.specs.Lower.cps_frames.declared.shared.Shared.{Shared}
use Rattle.saved_thread.specs.Lower.cps_frames.Standing.{common_of, setting_of}
use Rattle.image_form.specs.declared.image.Image.{Image}
use Rattle.image_form.specs.declared.image.ImageFrame.{ImageFrame}
use Rattle.image_form.specs.declared.image.ImageThread.{ImageThread}
use Rattle.image_check.specs.Standings.{shared_in}
use Rattle.saved_thread.specs.Lower.image_frames.Standings.{IsTold, frame_in}
use Rattle.saved_thread.specs.Lower.thread_fits.Seats.{as_seat}
use Rattle.saved_thread.specs.Saving.{Begun, seat_in, thread_told}
use Rattle.saved_thread.proofs.FrameLaws.{all_told_again}
use Rattle.build_core.specs.Builds.{Parts, StandsFor}
use Rattle.build_core.specs.Phases.{SoundIn, has_begun, has_ended}
use Rattle.build_images.specs.Images.{has_remains, image_in, image_told, is_none, phase_of, world_image}
use Rattle.build_images.proofs.Parts.{grouped, none_ready, rising}
use Rattle.build_images.proofs.SavedBuilds.{shown_is}
use Rattle.build_images.proofs.Seats.{Clear, all_same, begun_start, frames_found, matches}
use Rattle.build_images.proofs.Worlds.{clear, waiting}

-- frames of an image that passes its check stand at nodes of the script
at_nodes : (root : Term) (fits : Sorts) (fs : List ImageFrame) → AllAre (FrameFits fits root) (map (frame_in root) fs) → AllAre (λ (f : ImageFrame). f.node < length (nodes_of root)) fs
at_nodes root fits [] h = tt
at_nodes root fits (f ∷ fs) h = ((h.0).node, at_nodes root fits fs h.1)

pub all_at_nodes : (g : Setting) (u : Common) (seats : List Seat) (ts : List ImageThread) → AllAre (SeatFits g u seats) (map (seat_in g.script) ts) → AllAre (λ (t : ImageThread). AllAre (λ (f : ImageFrame). f.node < length (nodes_of g.script)) t.frames) ts
all_at_nodes g u seats [] h = tt
all_at_nodes g u seats (t ∷ ts) h = (at_nodes g.script _ t.frames (h.0).frames, all_at_nodes g u seats ts h.1)

-- threads that are told by an image are told so again
thread_again : (root : Term) (t : ImageThread) → AllAre (IsTold root) t.frames → thread_told root (seat_in root t) ≡ t
thread_again root t h = ap (λ fs. record { number = t.number; parent = t.parent; head = t.head; wait = t.wait; context = t.context; frames = fs }) (all_told_again root t.frames h)

threads_again : (root : Term) (ts : List ImageThread) → AllAre (λ (t : ImageThread). AllAre (IsTold root) t.frames) ts → map (thread_told root) (map (seat_in root) ts) ≡ ts
threads_again root [] h = refl
threads_again root (t ∷ ts) h = ap (λ s. s ∷ map (thread_told root) (map (seat_in root) ts)) (thread_again root t h.0) ∙ ap (λ ss. t ∷ ss) (threads_again root ts h.1)

-- what is left of a build that has ended
is_empty : {A : Type 0} (xs : List A) → is_none xs ≡ true → xs ≡ []
is_empty [] e = refl
is_empty (x ∷ xs) e = absurd (cc e)

not_not : (b : Bool) → not b ≡ false → b ≡ true
not_not true e = refl
not_not false e = absurd (cc e)

left_true : (a b : Bool) → (a && b) ≡ true → a ≡ true
left_true true b e = refl
left_true false b e = e

right_true : (a b : Bool) → (a && b) ≡ true → b ≡ true
right_true true b e = e
right_true false b e = absurd (cc e)

none_of_map : {A B : Type 0} (f : A → B) (xs : List A) → map f xs ≡ [] → xs ≡ []
none_of_map f [] e = refl
none_of_map f (x ∷ xs) e = absurd (cc e)

begun_phase : (b : Bool) → has_begun (phase_of b) ≡ true
begun_phase true = refl
begun_phase false = refl

pub ended_phase : (b : Bool) → has_ended (phase_of b) ≡ b
ended_phase true = refl
ended_phase false = refl

module _ {T : Type 0} (stance : T → Stance) where
  seat_numbers : (xs : List (Seated T)) → map (λ (t : Seat). t.number) (map (as_seat stance) xs) ≡ map (λ (x : Seated T). x.number) xs
  seat_numbers [] = refl
  seat_numbers (x ∷ xs) = ap (λ ns. x.number ∷ ns) (seat_numbers xs)

  only_script : (seats : List Seat) (g : Setting) (u : Common) (xs : List (Seated T)) → AllAre (SeatFits g u seats) (map (as_seat stance) xs) → OnlyScript xs
  only_script seats g u [] h = tt
  only_script seats g u (x ∷ xs) h = ((λ e. subst (ParentFits seats x.number) e (h.0).parent), only_script seats g u xs h.1)

  clear_seats : (g : Setting) (u : Common) (seats : List Seat) (xs : List (Seated T)) → AllAre (SeatFits g u seats) (map (as_seat stance) xs) → AllAre (Begun stance) xs → AllAre (Clear g.script) (map (as_seat stance) xs)
  clear_seats g u seats [] h b = tt
  clear_seats g u seats (x ∷ xs) h b = (record { frames = frames_found g u seats (as_seat stance x) h.0; start = begun_start stance g x b.0 }, clear_seats g u seats xs h.1 b.1)

  module _ (u : Shared) (seats : List (Seated T)) (next : ℕ) (begun : AllAre (Begun stance) seats) where
    -- what a build is made of fits, as the check has told of its image
    abbrev pub Rests : Bool → Type 0
    Rests ended = FitsAtRest (setting_of u) ended (common_of u) next (map (as_seat stance) seats)

    rise : (ended : Bool) → Rests ended → Rise 0 next (map (λ (x : Seated T). x.number) seats)
    rise ended h = subst (Rise 0 next) (seat_numbers seats) h.fits.numbers

    module _ (number : T → ℕ) (parent : T → Option ℕ) (branch : T → Bool) (fits : List (Seated T) → Shared → Type 0)
        (rested_fit : (xs : List (Seated T)) (v : Shared) (n : ℕ) → IsScript (script_of v.code) → AllAre (Begun stance) xs → FitsAtRest (setting_of v) false (common_of v) n (map (as_seat stance) xs) → fits xs v) where
      pub group_sound : (ended : Bool) → Rests ended → AllAre (IsSeated number parent branch) seats → Grouped number parent branch 0 seats next
      group_sound ended h s = grouped number parent branch 0 next seats (omega arith) (rise ended h) s

      pub sound : (ended : Bool) → IsScript (script_of u.code) → Rests ended → AllAre (IsSeated number parent branch) seats → (ended && not (is_none seats && (is_none u.requests && is_none u.held))) ≡ false → SoundIn number parent branch fits (phase_of ended) (record { seats = seats; next = next }) u
      sound false script h s r = record {
        grouped = group_sound false h s;
        fit = rested_fit seats u next script begun h;
        few_threads = h.fits.few_threads;
        few = none_ready stance seats h.rests;
      }
      sound true script h s r =
          let e : (is_none seats && (is_none u.requests && is_none u.held)) ≡ true = not_not _ r in
          let f : (is_none u.requests && is_none u.held) ≡ true = right_true (is_none seats) _ e in
          record {
            threads = is_empty seats (left_true (is_none seats) _ e);
            requests = is_empty u.requests (left_true (is_none u.requests) _ f);
            held = is_empty u.held (right_true (is_none u.requests) _ f);
            sound = h.fits.shared;
            few_threads = h.fits.few_threads;
          }

    -- the world of a list of events that has the same image
    pub stands : (ended : Bool) → IsScript (script_of u.code) → Rests ended → (events : List Event) → (W.world_in (setting_of u) events).started ≡ true →
        image_told (script_of u.code) (common_of u) next ended (map (as_seat stance) seats) ≡ world_image (setting_of u) (W.world_in (setting_of u) events) →
        StandsFor stance (record { phase = phase_of ended; group = record { seats = seats; next = next }; shared = u }) (W.world_in (setting_of u) events)
    stands ended script h events started e =
        let w : W.Build = W.world_in (setting_of u) events in
        let same : map (as_seat stance) seats ≡ seats_of (setting_of u) w.threads =
        all_same (script_of u.code) _ _ (clear_seats (setting_of u) (common_of u) _ seats h.fits.threads begun) (clear (setting_of u) script (omega arith) limits_narrow events started) (ap (λ (i : Image). i.threads) e) in
        record {
          started = started ∙ sym (begun_phase ended);
          ended = sym (ap (λ (i : Image). i.ended) e) ∙ sym (ended_phase ended);
          stand = record {
            shared = ap (λ (i : Image). record { cells = i.cells; binding = i.bindings; nodes = i.nodes; log = i.log; result = i.result; requests = i.requests; held = i.held; next_request = i.next_request; count = u.count }) (sym e)
                ∙ sym (shown_is (phase_of ended) (common_of u) (begun_phase ended));
            next = sym (ap (λ (i : Image). i.next_thread) e);
            rising = rising 0 next seats (omega arith) (rise ended h);
            script = only_script _ (setting_of u) (common_of u) seats h.fits.threads;
            threads = matches stance (setting_of u) seats w.threads same begun (waiting (setting_of u) script (omega arith) limits_narrow events);
          };
        }

  -- what an image tells of, by parts that are the same
  pub rests_from : (g : Setting) (ended : Bool) (u v : Common) (n : ℕ) (ts us : List Seat) → u ≡ v → ts ≡ us → FitsAtRest g ended v n us → FitsAtRest g ended u n ts
  rests_from g ended u v n ts us common same h = subst (λ xs. FitsAtRest g ended u n xs) (sym same) (subst (λ w. FitsAtRest g ended w n us) (sym common) h)

  -- the image of what an image tells of is this image
  pub image_again : (root : Term) (i : Image) (u : Common) (next : ℕ) (ended : Bool) (seats : List Seat) → AllAre (λ (t : ImageThread). AllAre (IsTold root) t.frames) i.threads → record u { count = 0 } ≡ shared_in i → next ≡ i.next_thread → ended ≡ i.ended → seats ≡ map (seat_in root) i.threads → image_told root u next ended seats ≡ i
  image_again root i u next ended seats told same n e s =
      ap (λ ts. image_told root u next ended ts) s
      ∙ ap (λ m. image_told root u m ended (map (seat_in root) i.threads)) n
      ∙ ap (λ b. image_told root u i.next_thread b (map (seat_in root) i.threads)) e
      ∙ ap (λ (v : Common). image_told root v i.next_thread i.ended (map (seat_in root) i.threads)) same
      ∙ ap (λ ts. record i { threads = ts }) (threads_again root i.threads told)

same_none : {A B C : Type 0} (f : A → C) (g : B → C) (xs : List A) (ys : List B) → map f xs ≡ map g ys → is_none xs ≡ is_none ys
same_none f g [] [] e = refl
same_none f g [] (y ∷ ys) e = absurd (cc e)
same_none f g (x ∷ xs) [] e = absurd (cc e)
same_none f g (x ∷ xs) (y ∷ ys) e = refl

-- The build of the parts that an image tells of, all together.
module _ {T : Type 0} (stance : T → Stance) (number : T → ℕ) (parent : T → Option ℕ) (branch : T → Bool) (fits : List (Seated T) → Shared → Type 0)
    (rested_fit : (xs : List (Seated T)) (v : Shared) (n : ℕ) → IsScript (script_of v.code) → AllAre (Begun stance) xs → FitsAtRest (setting_of v) false (common_of v) n (map (as_seat stance) xs) → fits xs v)
    (u : Shared) (i : Image) (seats : List (Seated T)) (script : IsScript (script_of u.code))
    (rest : FitsAtRest (setting_of u) i.ended (shared_in i) i.next_thread (map (seat_in (script_of u.code)) i.threads))
    (common : common_of u ≡ shared_in i) (same : map (as_seat stance) seats ≡ map (seat_in (script_of u.code)) i.threads) (begun : AllAre (Begun stance) seats) where
  abbrev pub Whole : Parts T
  Whole = record { phase = phase_of i.ended; group = record { seats = seats; next = i.next_thread }; shared = u }

  rests : FitsAtRest (setting_of u) i.ended (common_of u) i.next_thread (map (as_seat stance) seats)
  rests = rests_from stance (setting_of u) i.ended (common_of u) (shared_in i) i.next_thread _ _ common same rest

  no_remains : has_remains i ≡ false → (i.ended && not (is_none seats && (is_none u.requests && is_none u.held))) ≡ false
  no_remains over =
      ap (λ b. i.ended && not (b && (is_none u.requests && is_none u.held))) (same_none (as_seat stance) (seat_in (script_of u.code)) seats i.threads same)
      ∙ ap (λ (c : Common). i.ended && not (is_none i.threads && (is_none c.requests && is_none c.held))) common
      ∙ over

  pub whole_grouped : AllAre (IsSeated number parent branch) seats → Grouped number parent branch 0 seats i.next_thread
  whole_grouped seated = group_sound stance u seats i.next_thread begun number parent branch fits rested_fit i.ended rests seated

  pub whole_sound : AllAre (IsSeated number parent branch) seats → has_remains i ≡ false → SoundIn number parent branch fits (phase_of i.ended) (record { seats = seats; next = i.next_thread }) u
  whole_sound seated over = sound stance u seats i.next_thread begun number parent branch fits rested_fit i.ended script rests seated (no_remains over)

  pub whole_told : AllAre (λ (t : ImageThread). AllAre (IsTold (script_of u.code)) t.frames) i.threads → image_told (script_of u.code) (common_of u) i.next_thread i.ended (map (as_seat stance) seats) ≡ i
  whole_told told = image_again stance (script_of u.code) i (common_of u) i.next_thread i.ended (map (as_seat stance) seats) told (ap (λ (c : Common). record c { count = 0 }) common) refl refl same

  pub whole_here : AllAre (λ (t : ImageThread). AllAre (IsTold (script_of u.code)) t.frames) i.threads → image_in stance Whole ≡ i
  whole_here told = ap (λ b. image_told (script_of u.code) (common_of u) i.next_thread b (map (as_seat stance) seats)) (ended_phase i.ended) ∙ whole_told told

  pub whole_stands : AllAre (λ (t : ImageThread). AllAre (IsTold (script_of u.code)) t.frames) i.threads → (events : List Event) → (W.world_in (setting_of u) events).started ≡ true → i ≡ world_image (setting_of u) (W.world_in (setting_of u) events) → StandsFor stance Whole (W.world_in (setting_of u) events)
  whole_stands told events started e = stands stance u seats i.next_thread begun i.ended script rests events started (whole_told told ∙ e)
