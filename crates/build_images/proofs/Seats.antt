-- Threads of a build and of the definitions stand alike exactly where an image has the same of both.
use Rattle.std.proofs.Common.{◌≡◌, ◌∙◌, List, [], ◌∷◌, map, None, refl, sym, ap}
use Rattle.std.specs.List.{AllByRecursion as AllAre}
use Rattle.model_values.proofs.LaterLaws.{all_weaker}
use Rattle.model_run.specs.declared.frame.Frame.{Frame}
use Rattle.model_run.specs.Fitting.{Seat, SeatFits, known, seat_at, seats_of}
use Rattle.model_run.specs.Nesting.{row_at, shape_at}
use Rattle.model_run.specs.Opened.{calls_of}
use Rattle.model_run.specs.State.{Common, Own, Reply, Setting, Waits}
use Rattle.model_run.specs.Terms.{Term}
use Rattle.model_run.specs.Threads.{Thread, stands}
use Rattle.model_run.specs.Waiting.{Waiting}
use Rattle.green_threads.specs.declared.runner.Seated.{Seated}
use Rattle.settle_laws.specs.Stances.{Stance, StandsAt}
use Rattle.settle_laws.specs.Standing.{Matches, Same}
use Rattle.image_form.specs.declared.image.ImageThread.{ImageThread}
use Rattle.saved_thread.specs.Lower.frame_rows.Places.{left_at}
use Rattle.saved_thread.specs.Lower.image_frames.Standings.{frame_in}
use Rattle.saved_thread.specs.Lower.thread_fits.Seats.{as_seat, closure_of}
use Rattle.saved_thread.specs.Saving.{Begun, frame_told, thread_told}
use Rattle.saved_thread.proofs.FrameLaws.{found_again, left_again}

-- from its parts that are done those that still come are found
abbrev pub Found : Term → Frame → Type 0
Found root f = left_at f.kind (shape_at root f.node) (row_at root f).done ≡ f.left

-- a thread that has begun, whose frames are found
pub record Clear (root : Term) (t : Seat) : Type 0 where
  pub frames : AllAre (Found root) t.stack
  pub start : t.start ≡ None

pub frames_found : (g : Setting) (u : Common) (seats : List Seat) (t : Seat) → SeatFits g u seats t → AllAre (Found g.script) t.stack
frames_found g u seats t h = all_weaker _ _ (λ f fits. left_again (known u) g.script f fits) t.stack h.frames

again : (root : Term) (fs : List Frame) → AllAre (Found root) fs → map (frame_in root) (map (frame_told root) fs) ≡ fs
again root [] h = refl
again root (f ∷ fs) h = ap (λ g. g ∷ map (frame_in root) (map (frame_told root) fs)) (found_again root f h.0) ∙ ap (λ gs. f ∷ gs) (again root fs h.1)

seat_same : (a b : Seat) → a.number ≡ b.number → a.parent ≡ b.parent → a.head ≡ b.head → a.wait ≡ b.wait → a.context ≡ b.context → a.stack ≡ b.stack → a.start ≡ b.start → a ≡ b
seat_same a b n p h w c s st = λ i. record { number = n i; parent = p i; head = h i; wait = w i; context = c i; stack = s i; start = st i }

own_same : (a b : Own) → a.number ≡ b.number → a.head ≡ b.head → a.context ≡ b.context → a.calls ≡ b.calls → a ≡ b
own_same a b n h c k = λ i. record { number = n i; head = h i; context = c i; calls = k i }

told_same : (root : Term) (a b : Seat) → Clear root a → Clear root b → thread_told root a ≡ thread_told root b → a ≡ b
told_same root a b x y e =
    seat_same a b (ap (λ (t : ImageThread). t.number) e) (ap (λ (t : ImageThread). t.parent) e) (ap (λ (t : ImageThread). t.head) e) (ap (λ (t : ImageThread). t.wait) e) (ap (λ (t : ImageThread). t.context) e)
    (sym (again root a.stack x.frames) ∙ ap (λ (t : ImageThread). map (frame_in root) t.frames) e ∙ again root b.stack y.frames) (x.start ∙ sym y.start)

head_is : {A : Type 0} (t : A) (ts : List A) (r : A) (rs : List A) → t ∷ ts ≡ r ∷ rs → (t ≡ r) × (ts ≡ rs)
head_is t ts r rs e = (cc e, cc e)

-- of which an image has the same, stand alike
pub all_same : (root : Term) (xs ys : List Seat) → AllAre (Clear root) xs → AllAre (Clear root) ys → map (thread_told root) xs ≡ map (thread_told root) ys → xs ≡ ys
all_same root [] [] x y e = refl
all_same root [] (b ∷ ys) x y e = absurd (cc e)
all_same root (a ∷ xs) [] x y e = absurd (cc e)
all_same root (a ∷ xs) (b ∷ ys) x y e =
    let d = head_is (thread_told root a) (map (thread_told root) xs) (thread_told root b) (map (thread_told root) ys) e in
    ap (λ c. c ∷ xs) (told_same root a b x.0 y.0 d.0) ∙ ap (λ cs. b ∷ cs) (all_same root xs ys x.1 y.1 d.1)

pub waiting_start : (setting : Setting) (h : Thread) → Waiting setting h → (seat_at h (stands setting h)).start ≡ None
waiting_start setting h k = ap (λ r. (seat_at h r).start) k.stands_so

module _ {T : Type 0} (stance : T → Stance) (setting : Setting) where
  waiting_seat : (h : Thread) (k : Waiting setting h) → seat_at h (stands setting h) ≡ record { number = h.own.number; parent = h.parent; head = h.head; wait = h.wait; context = k.state.world.own.context; stack = k.path; start = None }
  waiting_seat h k = ap (seat_at h) k.stands_so

  stands_waiting : (x : Stance) (h : Thread) (k : Waiting setting h) → x.runs ≡ None → k.path ≡ x.frames → k.state.world.own ≡ x.own → (rs : List Reply) → h.history ≡ rs → StandsAt setting x h rs
  stands_waiting x h k n p o [] z = absurd (k.begun z)
  stands_waiting x h k n p o (r ∷ rs) z = (n, k.asked, k.state, k.stands_so ∙ ap (λ fs. Waits k.asked fs k.state) p, o)

  same_one : (x : Seated T) (h : Thread) → as_seat stance x ≡ seat_at h (stands setting h) → Begun stance x → Waiting setting h → Same stance setting x h
  same_one x h is b k =
      let e : as_seat stance x ≡ record { number = h.own.number; parent = h.parent; head = h.head; wait = h.wait; context = k.state.world.own.context; stack = k.path; start = None } = is ∙ waiting_seat h k in
      let number : x.number ≡ h.own.number = ap (λ (t : Seat). t.number) e in
      let parent : x.parent ≡ h.parent = ap (λ (t : Seat). t.parent) e in
      let head : (stance x.thread).own.head ≡ h.head = ap (λ (t : Seat). t.head) e in
      let context : (stance x.thread).own.context ≡ k.state.world.own.context = ap (λ (t : Seat). t.context) e in
      let frames : (stance x.thread).frames ≡ k.path = ap (λ (t : Seat). t.stack) e in
      let calls : (stance x.thread).own.calls ≡ k.state.world.own.calls = b.calls ∙ ap calls_of frames ∙ sym k.calls in
      let own : k.state.world.own ≡ (stance x.thread).own = own_same k.state.world.own (stance x.thread).own (k.number ∙ sym (b.number ∙ number)) (k.head ∙ sym head) (sym context) (sym calls) in
      record {
        number = number;
        parent = parent;
        wait = ap (λ (t : Seat). t.wait) e;
        stands = record {
          number = b.number ∙ number;
          parent = b.parent ∙ parent;
          head = head;
          at = stands_waiting (stance x.thread) h k b.runs (sym frames) own h.history refl;
        };
      }

  pub matches : (xs : List (Seated T)) (hs : List Thread) → map (as_seat stance) xs ≡ seats_of setting hs → AllAre (Begun stance) xs → AllAre (Waiting setting) hs → Matches stance setting xs hs
  matches [] [] e b k = tt
  matches [] (h ∷ hs) e b k = absurd (cc e)
  matches (x ∷ xs) [] e b k = absurd (cc e)
  matches (x ∷ xs) (h ∷ hs) e b k =
      let d = head_is (as_seat stance x) (map (as_seat stance) xs) (seat_at h (stands setting h)) (seats_of setting hs) e in
      (same_one x h d.0 b.0 k.0, matches xs hs d.1 b.1 k.1)

  -- a thread that has begun, where one of the definitions stands
  one_seat : (x : Seated T) (h : Thread) → Same stance setting x h → (stance x.thread).runs ≡ None → as_seat stance x ≡ seat_at h (stands setting h)
  one_seat x h s none = go h.history s.stands.at
    where
      go : (rs : List Reply) → StandsAt setting (stance x.thread) h rs → as_seat stance x ≡ seat_at h (stands setting h)
      go [] k = absurd (cc (sym none ∙ k.0))
      go (r ∷ rs) k =
          seat_same (as_seat stance x) (seat_at h (Waits k.1 (stance x.thread).frames k.2)) s.number s.parent (s.stands).head s.wait (ap (λ (o : Own). o.context) (sym k.4)) refl (ap closure_of k.0)
          ∙ sym (ap (seat_at h) k.3)

  pub seats_same : (xs : List (Seated T)) (hs : List Thread) → Matches stance setting xs hs → AllAre (λ (x : Seated T). (stance x.thread).runs ≡ None) xs → map (as_seat stance) xs ≡ seats_of setting hs
  seats_same [] [] m n = refl
  seats_same [] (h ∷ hs) m n = absurd m
  seats_same (x ∷ xs) [] m n = absurd m
  seats_same (x ∷ xs) (h ∷ hs) m n = ap (λ t. t ∷ map (as_seat stance) xs) (one_seat x h m.0 n.0) ∙ ap (λ ts. seat_at h (stands setting h) ∷ ts) (seats_same xs hs m.1 n.1)

  -- a thread that has begun is to begin no branch
  pub begun_start : (x : Seated T) → Begun stance x → (as_seat stance x).start ≡ None
  begun_start x b = ap closure_of b.runs
