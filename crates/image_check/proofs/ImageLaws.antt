-- Where no test of an image fails, it is that of a sound build between two events, and the other way round.
use Rattle.std.proofs.Common.{◌≡◌, ◌∙◌, ◌<◌, ◌≤◌, ◌++◌, ℕ, suc, Bool, true, false, List, [], ◌∷◌, length, map, drop, Option, Some, None, refl, ap, sym, subst, arith}
use Rattle.std.specs.Prelude.{◌||◌, is_some}
use Rattle.std.specs.Option.{option_map}
use Rattle.std.specs.List.{AllByRecursion as AllAre}
use Rattle.std.proofs.lemmas.List.{append-nil}
use Rattle.model_run.specs.declared.held.Held.{Held}
use Rattle.model_run.specs.declared.context.Context.{Context}
use Rattle.model_run.specs.declared.request.OpenRequest.{OpenRequest}
use Rattle.model_run.specs.declared.wait.Wait.{Wait}
use Rattle.model_run.specs.declared.wait.Wait.TheVariants.{Ready, Request as RequestWait, Branches}
use Rattle.model_run.specs.declared.site.Site.{Site}
use Rattle.model_run.specs.Fitting.{Distinct, HeldFits, IsWaitedFor, NotReady, RequestFits, Rise, Rises, Seat, SeatFits, concat_map, granted_request, own_held_of, seat_of}
use Rattle.model_run.specs.State.{Setting}
use Rattle.model_run.specs.Terms.{Term}
use Rattle.cps_code.specs.Script.{ArePartsBehind, IsScript}
use Rattle.image_form.specs.declared.image.Image.{Image}
use Rattle.image_form.specs.declared.image.ImageThread.{ImageThread}
use Rattle.image_frames.specs.Standings.{IsTold}
use Rattle.image_frames.proofs.LeadTests.{parts_behind}
use Rattle.image_check.specs.declared.finding.Finding.{Finding}
use Rattle.image_check.specs.declared.finding.ImageRefusal.TheVariants as refusal
use Rattle.image_check.specs.declared.finding.CheckKind.TheVariants as check
use Rattle.image_check.specs.Findings.{outside}
use Rattle.image_check.specs.Scans.{need, ◌then◌, each}
use Rattle.image_check.specs.Cells.{cells_fault}
use Rattle.image_check.specs.Images.{FallsFor, StandsFor, first_fault, front_fault, threads_fault}
use Rattle.image_check.specs.Requests.{all_differ, held_faults, request_fault, thread_of}
use Rattle.image_check.specs.Shared.{head_fault, nodes_fault}
use Rattle.image_check.specs.Standings.{Stands, seat_in, shared_in}
use Rattle.image_check.specs.Threads.{all_own, has_main, own_held, thread_fault}
use Rattle.image_check.proofs.Testing.{Tests, Passes, after, alike_passes, needed}
use Rattle.image_check.proofs.Numbers.{differ_tests}
use Rattle.image_check.proofs.CellLaws.{CellsStand, cells_stand}
use Rattle.image_check.proofs.RequestLaws.{HeldStands, RequestStands, find_seat, held_stand, requests_stand, rising_each, some_tests}
use Rattle.image_check.proofs.SeatLaws.{ThreadStands, thread}
use Rattle.image_check.proofs.SharedLaws.{HeadStands, NodesStand, head_stands, nodes_stand}
use Rattle.image_check.proofs.ThreadLaws.{above_is, seated}

-- numbers that rise, from any one on and below another
rise_on : (n m : ℕ) (ns : List ℕ) → Rises (n ∷ ns) → AllAre (λ k. k < m) ns → Rise (suc n) m ns
rise_on n m [] h b = tt
rise_on n m (k ∷ ns) h b = let lt : n < k = h.0 in (lt, b.0, rise_on k m ns h.1 b.1)

rise : (m : ℕ) (ns : List ℕ) → Rises ns → AllAre (λ k. k < m) ns → Rise 0 m ns
rise m [] h b = tt
rise m (n ∷ ns) h b = (omega arith, b.0, rise_on n m ns h b.1)

rises_after : (k n m : ℕ) (ns : List ℕ) → k < n → Rise n m ns → Rises (k ∷ ns)
rises_after k n m [] lt h = tt
rises_after k n m (l ∷ ns) lt h = let le : n ≤ l = h.0 in (omega (arith, lt, le), rises_after l (suc l) m ns (omega arith) h.2)

rises : (n m : ℕ) (ns : List ℕ) → Rise n m ns → Rises ns
rises n m [] h = tt
rises n m (k ∷ ns) h = rises_after k (suc k) m ns (omega arith) h.2

bounded : (n m : ℕ) (ns : List ℕ) → Rise n m ns → AllAre (λ k. k < m) ns
bounded n m [] h = tt
bounded n m (k ∷ ns) h = (h.1, bounded (suc k) m ns h.2)

map_all : {A : Type 0} (f : A → ℕ) (P : ℕ → Type 0) (xs : List A) → AllAre (λ x. P (f x)) xs → AllAre P (map f xs)
map_all f P [] h = tt
map_all f P (x ∷ xs) h = (h.0, map_all f P xs h.1)

all_map : {A : Type 0} (f : A → ℕ) (P : ℕ → Type 0) (xs : List A) → AllAre P (map f xs) → AllAre (λ x. P (f x)) xs
all_map f P [] h = tt
all_map f P (x ∷ xs) h = (h.0, all_map f P xs h.1)

all_both : {A : Type 0} (P Q : A → Type 0) (xs : List A) → AllAre P xs → AllAre Q xs → AllAre (λ x. P x × Q x) xs
all_both P Q [] p q = tt
all_both P Q (x ∷ xs) p q = ((p.0, q.0), all_both P Q xs p.1 q.1)

all_first : {A : Type 0} (P Q : A → Type 0) (xs : List A) → AllAre (λ x. P x × Q x) xs → AllAre P xs
all_first P Q [] h = tt
all_first P Q (x ∷ xs) h = (h.0.0, all_first P Q xs h.1)

all_second : {A : Type 0} (P Q : A → Type 0) (xs : List A) → AllAre (λ x. P x × Q x) xs → AllAre Q xs
all_second P Q [] h = tt
all_second P Q (x ∷ xs) h = (h.0.1, all_second P Q xs h.1)

all_to : {A : Type 0} (P Q : A → Type 0) → ((x : A) → P x → Q x) → (xs : List A) → AllAre P xs → AllAre Q xs
all_to P Q to [] h = tt
all_to P Q to (x ∷ xs) h = (to x h.0, all_to P Q to xs h.1)

seat_numbers : (root : Term) (ts : List ImageThread) → map (λ t. t.number) (map (seat_in root) ts) ≡ map (λ t. t.number) ts
seat_numbers root [] = refl
seat_numbers root (t ∷ ts) = ap (λ ns. t.number ∷ ns) (seat_numbers root ts)

all_seats : (root : Term) (P : Seat → Type 0) (ts : List ImageThread) → AllAre (λ t. P (seat_in root t)) ts → AllAre P (map (seat_in root) ts)
all_seats root P [] h = tt
all_seats root P (t ∷ ts) h = (h.0, all_seats root P ts h.1)

seats_all : (root : Term) (P : Seat → Type 0) (ts : List ImageThread) → AllAre P (map (seat_in root) ts) → AllAre (λ t. P (seat_in root t)) ts
seats_all root P [] h = tt
seats_all root P (t ∷ ts) h = (h.0, seats_all root P ts h.1)

-- what each thread holds itself
nothing_granted : (held : List Held) (w : Wait) → NotReady w → granted_request held w ≡ []
nothing_granted held (Ready x) n = absurd n
nothing_granted held (RequestWait r) n = refl
nothing_granted held (Branches js) n = refl

own_of : (root : Term) (i : Image) (t : ImageThread) → NotReady t.wait → own_held_of (shared_in i) (map (seat_in root) i.threads) (seat_in root t) ≡ own_held i t
own_of root i t n =
    ap (λ (x : Context). drop (length x.held) t.context.held ++ granted_request i.held t.wait) (above_is root i t.parent)
    ∙ ap (λ xs. own_held i t ++ xs) (nothing_granted i.held t.wait n)
    ∙ append-nil (own_held i t)

all_own_of : (root : Term) (i : Image) (ts : List ImageThread) → AllAre (λ t. NotReady t.wait) ts → concat_map (own_held_of (shared_in i) (map (seat_in root) i.threads)) (map (seat_in root) ts) ≡ all_own i ts
all_own_of root i [] n = refl
all_own_of root i (t ∷ ts) n =
    ap (λ xs. xs ++ concat_map (own_held_of (shared_in i) (map (seat_in root) i.threads)) (map (seat_in root) ts)) (own_of root i t n.0)
    ∙ ap (λ xs. own_held i t ++ xs) (all_own_of root i ts n.1)

-- the main thread
none_mapped : {A B : Type 0} (f : A → B) (o : Option A) → option_map f o ≡ None → o ≡ None
none_mapped f None e = refl
none_mapped f (Some x) e = absurd (cc e)

main_tests : (root : Term) (i : Image) (ended : Bool) → Tests (ended || is_some (thread_of i 0)) (ended ≡ false → seat_of (map (seat_in root) i.threads) 0 ≡ None → ⊥)
main_tests root i true = record { holds = λ e d. absurd (cc d); told = λ h. refl }
main_tests root i false =
    let found = find_seat (seat_in root) (seated root) 0 i.threads in
    record {
      holds = λ e d n. (some_tests (thread_of i 0)).holds e (none_mapped (seat_in root) (thread_of i 0) (sym found ∙ n));
      told = λ h. (some_tests (thread_of i 0)).told (λ n. h refl (found ∙ ap (option_map (seat_in root)) n));
    }

module _ (setting : Setting) (i : Image) (behind : ArePartsBehind setting.script) where
  -- what the tests of the threads say
  pub record ThreadsStand : Type 0 where
    pub main : i.ended ≡ false → seat_of (map (seat_in setting.script) i.threads) 0 ≡ None → ⊥
    pub numbers : Rises (map (λ t. t.number) i.threads)
    pub threads : AllAre (ThreadStands setting i behind) i.threads
    pub differ : Distinct (all_own i i.threads)

  threads_stand : Passes (threads_fault setting.script i) ThreadsStand
  threads_stand =
      let main = need (has_main i) (outside check.Parent) in
      let all = each (thread_fault setting.script i) 0 None i.threads in
      let differ = need (all_differ (all_own i i.threads)) (outside check.Executor) in
      alike_passes (threads_fault setting.script i)
      (after main (all then differ) (needed (has_main i) (outside check.Parent) (main_tests setting.script i i.ended))
      (after all differ (rising_each (λ (t : ImageThread). t.number) (thread_fault setting.script i) (ThreadStands setting i behind) (thread setting i behind) 0 None i.threads) (needed (all_differ (all_own i i.threads)) (outside check.Executor) (differ_tests (all_own i i.threads)))))
      (λ h. record { main = h.0; numbers = h.1.0.0; threads = h.1.0.1; differ = h.1.1 })
      (λ h. (h.main, ((h.numbers, h.threads), h.differ)))

  -- all of it
  pub record Parts : Type 0 where
    pub head : HeadStands i
    pub cells : CellsStand setting.script i.cells
    pub nodes : NodesStand i
    pub requests : Rises (map (λ r. r.number) i.requests) × AllAre (RequestStands setting.site (seat_in setting.script) i) i.requests
    pub held : (Rises (map (λ x. x.executor) i.held) × AllAre (HeldStands setting.site i) i.held) × Distinct (map (λ x. x.request) i.held)
    pub threads : ThreadsStand

  parts : Passes (first_fault setting.script setting.site i) Parts
  parts =
      let head = head_fault i in
      let cells = cells_fault setting.script i.cells in
      let nodes = nodes_fault i in
      let requests = each (request_fault setting.site i) 0 None i.requests in
      let held = held_faults setting.site i in
      let threads = threads_fault setting.script i in
      alike_passes (first_fault setting.script setting.site i)
      (after (front_fault setting.script i) (requests then (held then threads))
      (after head (cells then nodes) (head_stands i) (after cells nodes (cells_stand setting.script i.cells) (nodes_stand i)))
      (after requests (held then threads) (requests_stand setting.site (seat_in setting.script) (seated setting.script) i)
      (after held threads (held_stand setting.site i) threads_stand)))
      (λ h. record { head = h.0.0; cells = h.0.1.0; nodes = h.0.1.1; requests = h.1.0; held = h.1.1.0; threads = h.1.1.1 })
      (λ h. ((h.head, (h.cells, h.nodes)), (h.requests, (h.held, h.threads))))

  held_fits : (xs : List Held) → AllAre (λ x. x.request < i.next_request) xs → AllAre (HeldStands setting.site i) xs → AllAre (HeldFits setting.site (shared_in i)) xs
  held_fits [] b h = tt
  held_fits (x ∷ xs) b h = (record { executor = h.0.0; made = b.0; closed = h.0.1 }, held_fits xs b.1 h.1)

  held_below : (xs : List Held) → AllAre (HeldFits setting.site (shared_in i)) xs → AllAre (λ x. x.request < i.next_request) xs
  held_below [] h = tt
  held_below (x ∷ xs) h = (h.0.made, held_below xs h.1)

  held_there : (xs : List Held) → AllAre (HeldFits setting.site (shared_in i)) xs → AllAre (HeldStands setting.site i) xs
  held_there [] h = tt
  held_there (x ∷ xs) h = ((h.0.executor, h.0.closed), held_there xs h.1)

  build : Parts → Stands setting i
  build p =
      let t = p.threads in
      let rests = all_to (ThreadStands setting i behind) (λ t. NotReady t.wait) (λ t s. s.rests) i.threads t.threads in
      record {
        told = all_to (ThreadStands setting i behind) (λ t. AllAre (IsTold setting.script) t.frames) (λ t s. s.told) i.threads t.threads;
        fits = record {
          fits = record {
            shared = record {
              cells = p.cells.cells;
              short = p.cells.short;
              few_cells = p.cells.few;
              few_bytes = p.cells.few_bytes;
              binding = p.head.binding;
              names = p.head.names;
              some_node = p.nodes.some_node;
              few_nodes = p.nodes.few_nodes;
              nodes = p.nodes.nodes;
              requests = rise i.next_request (map (λ r. r.number) i.requests) p.requests.0 (map_all (λ r. r.number) (λ n. n < i.next_request) i.requests p.head.requests);
              few_requests = p.head.few_requests;
              asks = all_first (λ (r : OpenRequest). RequestFits setting.site (length i.log) r.request) (IsWaitedFor (map (seat_in setting.script) i.threads)) i.requests p.requests.1;
              rising = p.held.0.0;
              held = held_fits i.held p.head.held p.held.0.1;
              differ = p.held.1;
            };
            numbers = subst (Rise 0 i.next_thread) (sym (seat_numbers setting.script i.threads)) (rise i.next_thread (map (λ t. t.number) i.threads) t.numbers (map_all (λ t. t.number) (λ n. n < i.next_thread) i.threads p.head.threads));
            few_threads = p.head.few_threads;
            main = t.main;
            threads = all_seats setting.script (SeatFits setting (shared_in i) (map (seat_in setting.script) i.threads)) i.threads (all_to (ThreadStands setting i behind) (λ t. SeatFits setting (shared_in i) (map (seat_in setting.script) i.threads) (seat_in setting.script t)) (λ t s. s.fits) i.threads t.threads);
            differ = subst Distinct (sym (all_own_of setting.script i i.threads rests)) t.differ;
            waited_for = all_second (λ (r : OpenRequest). RequestFits setting.site (length i.log) r.request) (IsWaitedFor (map (seat_in setting.script) i.threads)) i.requests p.requests.1;
          };
          rests = all_seats setting.script (λ (s : Seat). NotReady s.wait) i.threads rests;
        };
      }

  thread_parts : (ts : List ImageThread) → AllAre (λ t. AllAre (IsTold setting.script) t.frames) ts → AllAre (λ t. NotReady t.wait) ts → AllAre (λ t. SeatFits setting (shared_in i) (map (seat_in setting.script) i.threads) (seat_in setting.script t)) ts → AllAre (ThreadStands setting i behind) ts
  thread_parts [] a b c = tt
  thread_parts (t ∷ ts) a b c = (record { told = a.0; rests = b.0; fits = c.0 }, thread_parts ts a.1 b.1 c.1)

  taken_apart : Stands setting i → Parts
  taken_apart s =
      let f = s.fits.fits in
      let u = f.shared in
      let rests = seats_all setting.script (λ (t : Seat). NotReady t.wait) i.threads s.fits.rests in
      let numbers = subst (Rise 0 i.next_thread) (seat_numbers setting.script i.threads) f.numbers in
      record {
        head = record {
          few_requests = u.few_requests;
          requests = all_map (λ r. r.number) (λ n. n < i.next_request) i.requests (bounded 0 i.next_request (map (λ r. r.number) i.requests) u.requests);
          held = held_below i.held u.held;
          few_threads = f.few_threads;
          threads = all_map (λ t. t.number) (λ n. n < i.next_thread) i.threads (bounded 0 i.next_thread (map (λ t. t.number) i.threads) numbers);
          names = u.names;
          binding = u.binding;
        };
        cells = record { few = u.few_cells; cells = u.cells; short = u.short; few_bytes = u.few_bytes };
        nodes = record { some_node = u.some_node; few_nodes = u.few_nodes; nodes = u.nodes };
        requests = (rises 0 i.next_request (map (λ r. r.number) i.requests) u.requests, all_both (λ (r : OpenRequest). RequestFits setting.site (length i.log) r.request) (IsWaitedFor (map (seat_in setting.script) i.threads)) i.requests u.asks f.waited_for);
        held = ((u.rising, held_there i.held u.held), u.differ);
        threads = record {
          main = f.main;
          numbers = rises 0 i.next_thread (map (λ t. t.number) i.threads) numbers;
          threads = thread_parts i.threads s.told rests (seats_all setting.script (SeatFits setting (shared_in i) (map (seat_in setting.script) i.threads)) i.threads f.threads);
          differ = subst Distinct (all_own_of setting.script i i.threads rests) f.differ;
        };
      }

  -- no test fails exactly where it stands
  pub stands : Passes (first_fault setting.script setting.site i) (Stands setting i)
  stands = alike_passes (first_fault setting.script setting.site i) parts build taken_apart

-- for every setting with this script and this site
passes_in : (root : Term) → IsScript root → (site : Site) (i : Image) (setting : Setting) → setting.script ≡ root → setting.site ≡ site → Passes (first_fault root site i) (Stands setting i)
passes_in root script site i setting is at =
    let here : Passes (first_fault setting.script setting.site i) (Stands setting i) = stands setting i (parts_behind setting.script (subst IsScript (sym is) script)) in
    subst (λ r. Passes (first_fault r site i) (Stands setting i)) is (subst (λ x. Passes (first_fault setting.script x i) (Stands setting i)) at here)

pub stands_for : (root : Term) → IsScript root → (site : Site) (i : Image) → first_fault root site i ≡ None → StandsFor root site i
stands_for root script site i e = λ setting is at. (passes_in root script site i setting is at).holds e

pub falls_for : (root : Term) → IsScript root → (site : Site) (i : Image) (f : Finding) → first_fault root site i ≡ Some f → FallsFor root site i (refusal.Fault f)
falls_for root script site i f e = λ setting is at h. cc (sym e ∙ (passes_in root script site i setting is at).told h)
