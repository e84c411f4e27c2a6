-- Where no test of a thread fails, it is a seat of a sound build, and the other way round.
use Rattle.std.proofs.Common.{◌≡◌, ◌∙◌, ◌+◌, ◌++◌, ℕ, suc, true, false, not, List, [], ◌∷◌, length, map, Option, Some, None, refl, ap, sym}
use Rattle.std.specs.Prelude.{◌&&◌, filter, find, nat_eq}
use Rattle.std.specs.Option.{option_map}
use Rattle.std.specs.List.{AllByRecursion as AllAre, list_all}
use Rattle.model_run.specs.declared.frame.Frame.{Frame}
use Rattle.model_run.specs.declared.wait.Wait.{Wait}
use Rattle.model_run.specs.declared.wait.Wait.TheVariants.{Ready, Request as RequestWait, Branches}
use Rattle.model_run.specs.declared.context.Context.{Context}
use Rattle.model_run.specs.declared.request.OpenRequest.{OpenRequest}
use Rattle.model_run.specs.declared.request.Request.{Request}
use Rattle.model_run.specs.declared.request.Request.TheVariants.{Node as NodeRequest, Task as TaskRequest, Input as InputRequest}
use Rattle.model_run.specs.Fitting.{Asks, EnvFits, ForRequest, NotReady, Seat, SeatFits, StartFits, WaitFits, holds_executor, holds_folder, known, outermost}
use Rattle.model_run.specs.Nesting.{Any_branch, Begun, FrameFits, Spot, innermost, spot_in}
use Rattle.model_run.specs.Scoping.{names_for}
use Rattle.model_run.specs.State.{Common, Setting}
use Rattle.cps_code.specs.Script.{ArePartsBehind}
use Rattle.image_form.specs.declared.image.Image.{Image}
use Rattle.image_form.specs.declared.image.ImageFrame.{ImageFrame}
use Rattle.image_form.specs.declared.image.ImageThread.{ImageThread}
use Rattle.image_frames.specs.Frames.{frame_fault, spot_inside}
use Rattle.image_frames.specs.Standings.{FrameStands, IsTold, frame_in}
use Rattle.image_frames.specs.declared.fault.FrameFault.{FrameFault}
use Rattle.image_frames.proofs.ChainLaws.{Linked, chains_linked, linked_chains}
use Rattle.image_frames.proofs.FrameLaws.{inside_there, no_fault_where, stands_where}
use Rattle.image_check.specs.declared.finding.CheckKind.TheVariants as check
use Rattle.image_check.specs.Findings.{in_thread}
use Rattle.image_check.specs.Scans.{need, ◌then◌, is_higher, none_or}
use Rattle.image_check.specs.Standings.{seat_in, shared_in}
use Rattle.image_check.specs.Threads.{begins, context_above, first_stands, frames_fault, goes_on, has_branches, has_context, has_end_node, has_nodes, has_outcomes, has_parent, has_place, has_request, is_flow_node, is_held, is_ready, joins_of, may_wait, next_fits, thread_fault, told_in}
use Rattle.image_check.proofs.Testing.{Passes, left_true, right_true, both_true, not_true, then_none, none_then, need_none, none_need}
use Rattle.image_check.proofs.ThreadLaws.{Continues, WaitTests, above_is, bodies_are, continues, held_all, node_tests, parent_tests, wait_holds, wait_told}

told_none : (n place : ℕ) (o : Option FrameFault) → told_in n place o ≡ None → o ≡ None
told_none n place None e = refl
told_none n place (Some k) e = absurd (cc e)

ready_not : (w : Wait) → NotReady w → is_ready w ≡ false
ready_not (Ready x) h = absurd h
ready_not (RequestWait r) h = refl
ready_not (Branches js) h = refl

-- no wait stands outside all frames
never_asked : (r : Request) → Asks (Begun 0) r → ⊥
never_asked (NodeRequest label) h = h
never_asked (TaskRequest executor workspace folder env script status keep taken out) h = h
never_asked (InputRequest id) h = h

never_asked_there : (r : Request) → Asks Any_branch r → ⊥
never_asked_there (NodeRequest label) h = h
never_asked_there (TaskRequest executor workspace folder env script status keep taken out) h = h
never_asked_there (InputRequest id) h = h

never_begun : (n : ℕ) (o : Option OpenRequest) → ForRequest (Begun 0) o n → ⊥
never_begun n None h = h
never_begun n (Some q) h = never_asked q.request h.1

never_branch : (n : ℕ) (o : Option OpenRequest) → ForRequest Any_branch o n → ⊥
never_branch n None h = h
never_branch n (Some q) h = never_asked_there q.request h.1

never_outermost : (u : Common) (seats : List Seat) (s : Seat) (parent : Option ℕ) (w : Wait) → NotReady w → WaitFits u seats s (outermost parent) w → ⊥
never_outermost u seats s None (RequestWait r) n h = never_begun s.number (find (λ q. nat_eq q.number r) u.requests) h
never_outermost u seats s (Some p) (RequestWait r) n h = never_branch s.number (find (λ q. nat_eq q.number r) u.requests) h
never_outermost u seats s None (Branches js) n h = h
never_outermost u seats s (Some p) (Branches js) n h = h
never_outermost u seats s parent (Ready x) n h = n

module _ (setting : Setting) (i : Image) (behind : ArePartsBehind setting.script) where
  -- what is inside each frame fits
  abbrev Insides : Wait → List ImageFrame → Type 0
  Insides w [] = Unit {0}
  Insides w (f ∷ fs) = (none_or (next_fits setting.script i w fs) (spot_inside setting.script f) ≡ true) × Insides w fs

  frames_hold : (t : ImageThread) (place : ℕ) (fs : List ImageFrame) → frames_fault setting.script i t place fs ≡ None → AllAre (FrameStands setting.script (shared_in i)) fs × Insides t.wait fs
  frames_hold t place [] e = (tt, tt)
  frames_hold t place (f ∷ fs) e =
      let inside = none_or (next_fits setting.script i t.wait fs) (spot_inside setting.script f) in
      let fault = frame_fault setting.script i.cells (length i.nodes) inside f in
      let p = then_none (told_in t.number place fault) (frames_fault setting.script i t (suc place) fs) e in
      let here = stands_where setting.script (shared_in i) inside f (told_none t.number place fault p.0) in
      let rest = frames_hold t (suc place) fs p.1 in
      ((here.1, rest.0), (here.0, rest.1))

  frames_told : (t : ImageThread) (place : ℕ) (fs : List ImageFrame) → AllAre (FrameStands setting.script (shared_in i)) fs → Insides t.wait fs → frames_fault setting.script i t place fs ≡ None
  frames_told t place [] s n = refl
  frames_told t place (f ∷ fs) s n =
      let inside = none_or (next_fits setting.script i t.wait fs) (spot_inside setting.script f) in
      let fault = frame_fault setting.script i.cells (length i.nodes) inside f in
      none_then (told_in t.number place fault) (frames_fault setting.script i t (suc place) fs)
      (ap (told_in t.number place) (no_fault_where setting.script (shared_in i) inside f n.0 s.0))
      (frames_told t (suc place) fs s.1 n.1)

  -- the frames one inside the other, and the wait inside the last
  inside_is : (w : Wait) (f : ImageFrame) (fs : List ImageFrame) → FrameStands setting.script (shared_in i) f → none_or (next_fits setting.script i w fs) (spot_inside setting.script f) ≡ next_fits setting.script i w fs (spot_in setting.script (frame_in setting.script f))
  inside_is w f fs s = ap (none_or (next_fits setting.script i w fs)) (inside_there setting.script (shared_in i) f s)

  link : (w : Wait) (at : Spot) (fs : List ImageFrame) → AllAre (FrameStands setting.script (shared_in i)) fs → Insides w fs → next_fits setting.script i w fs at ≡ true → Linked setting.script (may_wait i w) at fs
  link w at [] s n e = e
  link w at (f ∷ fs) s n e = (e, link w (spot_in setting.script (frame_in setting.script f)) fs s.1 n.1 (sym (inside_is w f fs s.0) ∙ n.0))

  linked_next : (w : Wait) (at : Spot) (fs : List ImageFrame) → Linked setting.script (may_wait i w) at fs → next_fits setting.script i w fs at ≡ true
  linked_next w at [] l = l
  linked_next w at (f ∷ fs) l = l.0

  linked_insides : (w : Wait) (at : Spot) (fs : List ImageFrame) → AllAre (FrameStands setting.script (shared_in i)) fs → Linked setting.script (may_wait i w) at fs → Insides w fs
  linked_insides w at [] s l = tt
  linked_insides w at (f ∷ fs) s l =
      let next = spot_in setting.script (frame_in setting.script f) in
      (inside_is w f fs s.0 ∙ linked_next w next fs l.1, linked_insides w next fs s.1 l.1)

  first_next : (w : Wait) (at : Spot) (fs : List ImageFrame) → first_stands setting.script at fs ≡ true → next_fits setting.script i w fs at ≡ true
  first_next w at [] e = absurd (cc e)
  first_next w at (f ∷ fs) e = e

  -- frames of a seat
  all_fit : (fs : List ImageFrame) → AllAre (FrameStands setting.script (shared_in i)) fs → AllAre (FrameFits (known (shared_in i)) setting.script) (map (frame_in setting.script) fs)
  all_fit [] s = tt
  all_fit (f ∷ fs) s = (s.0.fits, all_fit fs s.1)

  all_see : (fs : List ImageFrame) → AllAre (FrameStands setting.script (shared_in i)) fs → AllAre (λ (f : Frame). EnvFits i.cells (names_for setting.script f) f.env) (map (frame_in setting.script) fs)
  all_see [] s = tt
  all_see (f ∷ fs) s = (s.0.variables, all_see fs s.1)

  all_told : (fs : List ImageFrame) → AllAre (FrameStands setting.script (shared_in i)) fs → AllAre (IsTold setting.script) fs
  all_told [] s = tt
  all_told (f ∷ fs) s = (s.0.told, all_told fs s.1)

  all_stand : (fs : List ImageFrame) → AllAre (IsTold setting.script) fs → AllAre (FrameFits (known (shared_in i)) setting.script) (map (frame_in setting.script) fs) → AllAre (λ (f : Frame). EnvFits i.cells (names_for setting.script f) f.env) (map (frame_in setting.script) fs) → AllAre (FrameStands setting.script (shared_in i)) fs
  all_stand [] a b c = tt
  all_stand (f ∷ fs) a b c = (record { told = a.0; fits = b.0; variables = c.0 }, all_stand fs a.1 b.1 c.1)

  begun : (parent : Option ℕ) (at : Spot) (fs : List ImageFrame) → first_stands setting.script at fs ≡ true → StartFits setting.script i.cells parent (map (frame_in setting.script) fs) None
  begun parent at [] e = absurd (cc e)
  begun None at (f ∷ fs) e = refl
  begun (Some p) at (f ∷ fs) e = refl

  -- a thread and its frames
  pub record ThreadStands (t : ImageThread) : Type 0 where
    pub told : AllAre (IsTold setting.script) t.frames
    pub rests : NotReady t.wait
    pub fits : SeatFits setting (shared_in i) (map (seat_in setting.script) i.threads) (seat_in setting.script t)

  -- the tests outside its frames
  pub record Outside (before : Option ℕ) (t : ImageThread) : Type 0 where
    pub begins : begins setting.script t ≡ true
    pub nodes : has_nodes i t ≡ true
    pub outcomes : has_outcomes i t ≡ true
    pub request : has_request i t.number t.wait ≡ true
    pub context : has_context i t ≡ true
    pub parent : has_parent i t.number t.parent ≡ true
    pub branches : has_branches i t.number t.wait ≡ true

  thread_holds : (before : Option ℕ) (t : ImageThread) → Outside before t → frames_fault setting.script i t 0 t.frames ≡ None → ThreadStands t
  thread_holds before t o e =
      let frames = frames_hold t 0 t.frames e in
      let at = outermost t.parent in
      let ready = not_true (is_ready t.wait) (left_true (not (is_ready t.wait)) (first_stands setting.script at t.frames) o.begins) in
      let first = right_true (not (is_ready t.wait)) (first_stands setting.script at t.frames) o.begins in
      let chains = linked_chains setting.script behind (shared_in i) (may_wait i t.wait) at t.frames frames.0 (link t.wait at t.frames frames.0 frames.1 (first_next t.wait at t.frames first)) in
      let last = innermost setting.script at (map (frame_in setting.script) t.frames) in
      let head = is_flow_node (length i.nodes) t.head in
      let ends = list_all (has_end_node (length i.nodes)) (joins_of t.wait) in
      let tests : WaitTests setting.script i t.number last t.wait = record { rests = ready; nodes = right_true head ends o.nodes; outcomes = o.outcomes; request = o.request; branches = o.branches; waits = chains.waits } in
      let wait = wait_holds setting.script i t last t.wait tests in
      let above = context_above i t.parent in
      let goes = goes_on above.held (length above.folders) t in
      let is_above = above_is setting.script i t.parent in
      let all_held = list_all (is_held i) t.context.held in
      let c = (continues above.held (length above.folders) t).holds (left_true goes all_held o.context) in
      record {
        told = all_told t.frames frames.0;
        rests = wait.0;
        fits = record {
          head = (node_tests (length i.nodes) t.head).holds (left_true head ends o.nodes);
          parent = (parent_tests setting.script i t.number t.parent).holds o.parent;
          frames = all_fit t.frames frames.0;
          envs = all_see t.frames frames.0;
          nested = chains.nested;
          closures = chains.closures;
          waits = wait.1;
          start = begun t.parent at t.frames first;
          own_held = (c.own.0, c.own.1 ∙ ap (λ (x : Context). x.held ++ c.own.0) (sym is_above), c.own.2 ∙ sym (bodies_are setting.script holds_executor t.frames));
          holds = (held_all setting.script i t.context.held).holds (right_true goes all_held o.context);
          folders = c.folders ∙ ap (λ n. length above.folders + n) (sym (bodies_are setting.script holds_folder t.frames)) ∙ ap (λ (x : Context). length x.folders + length (filter (λ (f : Frame). holds_folder f.kind) (map (frame_in setting.script) t.frames))) (sym is_above);
        };
      }

  first_there : (t : ImageThread) → AllAre (FrameStands setting.script (shared_in i)) t.frames → (at : Spot) (fs : List ImageFrame) → Linked setting.script (may_wait i t.wait) at fs → (fs ≡ [] → ⊥) → first_stands setting.script at fs ≡ true
  first_there t s at [] l n = absurd (n refl)
  first_there t s at (f ∷ fs) l n = l.0

  some_frame : (t : ImageThread) (fs : List ImageFrame) → NotReady t.wait → WaitFits (shared_in i) (map (seat_in setting.script) i.threads) (seat_in setting.script t) (innermost setting.script (outermost t.parent) (map (frame_in setting.script) fs)) t.wait → fs ≡ [] → ⊥
  some_frame t [] n h e = never_outermost (shared_in i) (map (seat_in setting.script) i.threads) (seat_in setting.script t) t.parent t.wait n h
  some_frame t (f ∷ fs) n h e = cc e

  thread_told : (before : Option ℕ) (t : ImageThread) → ThreadStands t → Outside before t × (frames_fault setting.script i t 0 t.frames ≡ None)
  thread_told before t s =
      let fits = s.fits in
      let at = outermost t.parent in
      let last = innermost setting.script at (map (frame_in setting.script) t.frames) in
      let wait = wait_told setting.script i t last t.wait (s.rests, fits.waits) in
      let stand = all_stand t.frames s.told fits.frames fits.envs in
      let linked = chains_linked setting.script behind (shared_in i) (may_wait i t.wait) at t.frames stand (record { nested = fits.nested; closures = fits.closures; waits = wait.waits }) in
      let first = first_there t stand at t.frames linked (some_frame t t.frames s.rests fits.waits) in
      let above = context_above i t.parent in
      let goes = goes_on above.held (length above.folders) t in
      let is_above = above_is setting.script i t.parent in
      let own = fits.own_held in
      let c : Continues above.held (length above.folders) t = record {
        own = (own.0, own.1 ∙ ap (λ (x : Context). x.held ++ own.0) is_above, own.2 ∙ bodies_are setting.script holds_executor t.frames);
        folders = fits.folders ∙ ap (λ (x : Context). length x.folders + length (filter (λ (f : Frame). holds_folder f.kind) (map (frame_in setting.script) t.frames))) is_above ∙ ap (λ n. length above.folders + n) (bodies_are setting.script holds_folder t.frames);
      } in (
        record {
          begins = both_true (not (is_ready t.wait)) (first_stands setting.script at t.frames) (ap not (ready_not t.wait s.rests)) first;
          nodes = both_true (is_flow_node (length i.nodes) t.head) (list_all (has_end_node (length i.nodes)) (joins_of t.wait)) ((node_tests (length i.nodes) t.head).told fits.head) wait.nodes;
          outcomes = wait.outcomes;
          request = wait.request;
          context = both_true goes (list_all (is_held i) t.context.held) ((continues above.held (length above.folders) t).told c) ((held_all setting.script i t.context.held).told fits.holds);
          parent = (parent_tests setting.script i t.number t.parent).told fits.parent;
          branches = wait.branches;
        },
        frames_told t 0 t.frames stand (linked_insides t.wait at t.frames stand linked),
      )

  -- all tests of a thread
  pub thread : (place : ℕ) (before : Option ImageThread) (t : ImageThread) → Passes (thread_fault setting.script i place before t) ((is_higher (option_map (λ u. u.number) before) t.number ≡ true) × ThreadStands t)
  thread place before t =
      let n = t.number in
      let frames = frames_fault setting.script i t 0 t.frames in
      let higher = is_higher (option_map (λ (u : ImageThread). u.number) before) n in
      let p = has_parent i n t.parent in
      let b = has_branches i n t.wait in
      let f6 = need (has_place i before t) (in_thread n check.Parent) then frames in
      let f5 = need (has_context i t) (in_thread n check.Executor) then f6 in
      let f4 = need (has_request i n t.wait) (in_thread n check.Request) then f5 in
      let f3 = need (has_outcomes i t) (in_thread n check.MissingCell) then f4 in
      let f2 = need (has_nodes i t) (in_thread n check.Node) then f3 in
      record {
        holds = λ e. (
            let e1 = then_none (need (begins setting.script t) (in_thread n check.Kind)) f2 e in
            let e2 = then_none (need (has_nodes i t) (in_thread n check.Node)) f3 e1.1 in
            let e3 = then_none (need (has_outcomes i t) (in_thread n check.MissingCell)) f4 e2.1 in
            let e4 = then_none (need (has_request i n t.wait) (in_thread n check.Request)) f5 e3.1 in
            let e5 = then_none (need (has_context i t) (in_thread n check.Executor)) f6 e4.1 in
            let e6 = then_none (need (has_place i before t) (in_thread n check.Parent)) frames e5.1 in
            let place_there = need_none (has_place i before t) (in_thread n check.Parent) e6.0 in
            let o : Outside (option_map (λ (u : ImageThread). u.number) before) t = record {
              begins = need_none (begins setting.script t) (in_thread n check.Kind) e1.0;
              nodes = need_none (has_nodes i t) (in_thread n check.Node) e2.0;
              outcomes = need_none (has_outcomes i t) (in_thread n check.MissingCell) e3.0;
              request = need_none (has_request i n t.wait) (in_thread n check.Request) e4.0;
              context = need_none (has_context i t) (in_thread n check.Executor) e5.0;
              parent = left_true p b (right_true higher (p && b) place_there);
              branches = right_true p b (right_true higher (p && b) place_there);
            } in
            (left_true higher (p && b) place_there, thread_holds (option_map (λ (u : ImageThread). u.number) before) t o e6.1));
        told = λ h. (
            let r = thread_told (option_map (λ (u : ImageThread). u.number) before) t h.1 in
            let o = r.0 in
            none_then (need (begins setting.script t) (in_thread n check.Kind)) f2 (none_need (begins setting.script t) (in_thread n check.Kind) o.begins)
            (none_then (need (has_nodes i t) (in_thread n check.Node)) f3 (none_need (has_nodes i t) (in_thread n check.Node) o.nodes)
            (none_then (need (has_outcomes i t) (in_thread n check.MissingCell)) f4 (none_need (has_outcomes i t) (in_thread n check.MissingCell) o.outcomes)
            (none_then (need (has_request i n t.wait) (in_thread n check.Request)) f5 (none_need (has_request i n t.wait) (in_thread n check.Request) o.request)
            (none_then (need (has_context i t) (in_thread n check.Executor)) f6 (none_need (has_context i t) (in_thread n check.Executor) o.context)
            (none_then (need (has_place i before t) (in_thread n check.Parent)) frames (none_need (has_place i before t) (in_thread n check.Parent) (both_true higher (p && b) h.0 (both_true p b o.parent o.branches))) r.1))))));
      }
