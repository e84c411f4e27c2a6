-- The image of a build that fits passes the check of images, and where the build has ended nothing is left in it.
use Rattle.std.proofs.Common.{◌≡◌, ◌∙◌, ℕ, Bool, true, false, List, [], ◌∷◌, map, Option, Some, None, refl, sym, ap, subst}
use Rattle.std.specs.Prelude.{not, ◌&&◌, slice_get}
use Rattle.std.specs.List.{AllByRecursion as AllAre}
use Rattle.model_run.specs.declared.frame.Frame.{Frame}
use Rattle.model_run.specs.Fitting.{FitsAtRest, Seat}
use Rattle.model_run.specs.Nesting.{row_at}
use Rattle.model_run.specs.State.{Common, Setting}
use Rattle.model_run.specs.Terms.{Term}
use Rattle.cps_code.specs.Script.{IsScript}
use Rattle.saved_thread.specs.Lower.frame_rows.Kinds.{kinds, kind_found, kind_number}
use Rattle.image_form.specs.declared.image.Image.{Image}
use Rattle.image_form.specs.declared.image.ImageThread.{ImageThread}
use Rattle.saved_thread.specs.Lower.image_frames.Standings.{IsTold, frame_in}
use Rattle.image_check.specs.declared.finding.Finding.{Finding}
use Rattle.image_check.specs.Images.{first_fault}
use Rattle.image_check.specs.Standings.{Stands, seat_in}
use Rattle.image_check.proofs.ImageLaws.{falls_for}
use Rattle.saved_thread.specs.Saving.{frame_told, thread_told}
use Rattle.saved_thread.proofs.FrameLaws.{found_again}
use Rattle.build_images.specs.Images.{IsWhole, has_remains, image_told, is_none}
use Rattle.build_images.proofs.Seats.{Clear, Found}
use Rattle.build_images.proofs.Uncounted.{anew, rests_anew}

-- frames that are found again are told, and so are threads
told_frame : (root : Term) (f : Frame) → Found root f → IsTold root (frame_told root f)
told_frame root f found = ((λ none. let there : slice_get kinds (kind_number f.kind) ≡ Some f.kind = kind_found f.kind in absurd (cc)), ap (λ (g : Frame). (row_at root g).done) (sym (found_again root f found)))

told_frames : (root : Term) (fs : List Frame) → AllAre (Found root) fs → AllAre (IsTold root) (map (frame_told root) fs)
told_frames root [] found = tt
told_frames root (f ∷ fs) found = (told_frame root f found.0, told_frames root fs found.1)

told_threads : (root : Term) (ts : List Seat) → AllAre (Clear root) ts → AllAre (λ (t : ImageThread). AllAre (IsTold root) t.frames) (map (thread_told root) ts)
told_threads root [] clears = tt
told_threads root (t ∷ ts) clears = (told_frames root t.stack (clears.0).frames, told_threads root ts clears.1)

frames_again : (root : Term) (fs : List Frame) → AllAre (Found root) fs → map (frame_in root) (map (frame_told root) fs) ≡ fs
frames_again root [] found = refl
frames_again root (f ∷ fs) found = ap (λ (g : Frame). g ∷ map (frame_in root) (map (frame_told root) fs)) (found_again root f found.0) ∙ ap (λ (gs : List Frame). f ∷ gs) (frames_again root fs found.1)

seat_again : (root : Term) (t : Seat) → Clear root t → seat_in root (thread_told root t) ≡ t
seat_again root t clears =
    ap (λ (fs : List Frame). record { number = t.number; parent = t.parent; head = t.head; wait = t.wait; context = t.context; stack = fs; start = None }) (frames_again root t.stack clears.frames)
    ∙ ap (λ start. record { number = t.number; parent = t.parent; head = t.head; wait = t.wait; context = t.context; stack = t.stack; start = start }) (sym clears.start)

seats_again : (root : Term) (ts : List Seat) → AllAre (Clear root) ts → map (seat_in root) (map (thread_told root) ts) ≡ ts
seats_again root [] clears = refl
seats_again root (t ∷ ts) clears = ap (λ (s : Seat). s ∷ map (seat_in root) (map (thread_told root) ts)) (seat_again root t clears.0) ∙ ap (λ (ss : List Seat). t ∷ ss) (seats_again root ts clears.1)

-- a build that has ended has nothing left
nothing_left : (ended threads requests held : Bool) → threads ≡ true → requests ≡ true → held ≡ true → (ended && not (threads && (requests && held))) ≡ false
nothing_left true true true true a b c = refl
nothing_left false true true true a b c = refl
nothing_left ended false requests held a b c = absurd (cc)
nothing_left ended true false held a b c = absurd (cc)
nothing_left ended true true false a b c = absurd (cc)

-- what is left of a build that has ended
pub record IsCleared (u : Common) (seats : List Seat) : Type 0 where
  pub threads : seats ≡ []
  pub requests : u.requests ≡ []
  pub held : u.held ≡ []

module _ (setting : Setting) (u : Common) (next : ℕ) (ended : Bool) (seats : List Seat) where
  abbrev image : Image
  image = image_told setting.script u next ended seats

  none_left : (over : Bool) → ended ≡ over → (ended ≡ true → IsCleared u seats) → has_remains image ≡ false
  none_left false is clears = ap (λ (b : Bool). b && not (is_none (map (thread_told setting.script) seats) && (is_none u.requests && is_none u.held))) is
  none_left true is clears =
      let c : IsCleared u seats = clears is in
      nothing_left ended (is_none (map (thread_told setting.script) seats)) (is_none u.requests) (is_none u.held) (ap (λ ts. is_none (map (thread_told setting.script) ts)) c.threads) (ap is_none c.requests) (ap is_none c.held)

  -- An image of threads that are found again.
  pub whole_image : AllAre (Clear setting.script) seats → FitsAtRest setting ended u next seats → (ended ≡ true → IsCleared u seats) → IsWhole setting (image_told setting.script u next ended seats)
  whole_image clears fits over = record {
    stands = record {
      told = told_threads setting.script seats clears;
      fits = subst (λ (ts : List Seat). FitsAtRest setting ended (anew u) next ts) (sym (seats_again setting.script seats clears)) (rests_anew u setting ended next seats fits);
    };
    clear = none_left ended refl over;
  }

-- what stands has no fault
pub no_fault : (setting : Setting) → IsScript setting.script → (i : Image) → Stands setting i → first_fault setting.script setting.site i ≡ None
no_fault setting script i stands = none_found (first_fault setting.script setting.site i) refl
  where
    none_found : (o : Option Finding) → first_fault setting.script setting.site i ≡ o → first_fault setting.script setting.site i ≡ None
    none_found None e = e
    none_found (Some f) e = absurd (falls_for setting.script script setting.site i f e setting refl refl stands)
