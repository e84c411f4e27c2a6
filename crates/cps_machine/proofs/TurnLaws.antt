-- What a move leaves to the other threads.
use Rattle.std.proofs.lemmas.Bool.{lt-ltb, ltb-true}
use Rattle.std.specs.Prelude.{nat_lt}
use Rattle.std.proofs.Common.{◌≡◌, ◌∙◌, ℕ, suc, ◌<◌, ◌≤◌, arith, length, Bool, false, true, List, [], ◌∷◌, ◌++◌, Option, Some, None, refl, ap, subst, sym}
use Rattle.model_syntax.specs.declared.node.NodeForm.{NodeForm}
use Rattle.model_syntax.specs.declared.node.NodeForm.TheVariants as form
use Rattle.model_values.specs.declared.limit.LimitKind.{LimitKind}
use Rattle.model_run.specs.declared.ending.Asked.{Asked}
use Rattle.model_run.specs.declared.ending.Asked.TheVariants.{ForBranches, ForRequest}
use Rattle.model_run.specs.declared.ending.Ending.{Ending}
use Rattle.model_run.specs.declared.ending.Entry.{Entry}
use Rattle.model_run.specs.declared.ending.Entry.TheVariants.{Body, Branched, First, Inside, On, Turn}
use Rattle.model_run.specs.declared.frame.Frame.{Frame}
use Rattle.model_run.specs.declared.frame.FrameKind.TheVariants as kind
use Rattle.model_run.specs.declared.request.OpenRequest.{OpenRequest}
use Rattle.model_run.specs.declared.request.Request.{Request}
use Rattle.model_run.specs.declared.request.Request.TheVariants.{Input, Node, Task}
use Rattle.model_run.specs.Around.{Around, Shape, arity, frame, position, value_at, whole}
use Rattle.model_run.specs.Callables.{body, closed, opened}
use Rattle.model_run.specs.Fitting.{Asks}
use Rattle.model_run.specs.Forms.{after, after_kind, branched, enter}
use Rattle.model_run.specs.FrameTable.{Within, Inner, within, Own_body, Part, Executor_wait, Task_wait, Person_wait, frame_row, is_callable, is_closure_form, passes, row_of}
use Rattle.model_run.specs.Nesting.{MeetsRow, Spot, anything, innermost, row_at, shape_at, spot, spot_in}
use Rattle.model_run.specs.Since.{Follows}
use Rattle.model_run.specs.State.{Common, Env, Reply, Result, Setting, Ended, Limited, State, Unfinished, Waits, World, changed, reply_to, through, unless_limit, with_world}
use Rattle.model_run.specs.Steps.{after_branch, with_request}
use Rattle.model_run.specs.Terms.{Term, part_of, term_at}
use Rattle.model_run.specs.Meaning.{shape_of}
use Rattle.model_run.proofs.CallLaws.{BodiesGo, bodies_law, body_law}
use Rattle.model_run.proofs.Front.{front_length}
use Rattle.model_run.proofs.FormLaws.{Entered, after_law, enter_law}
use Rattle.model_run.proofs.Relation.{Agree, AskedAt, Keeps, OfPart, Relation}
use Rattle.model_run.proofs.SinceLaws.{asks_follows, follows_itself, follows_on, keeps_follows}
use Rattle.cps_frames.specs.Moves.{Comes, How, Part as As_part, Again, Call, Placed, does, over}
use Rattle.cps_frames.specs.Standing.{Standing, state}
use Rattle.cps_frames.specs.declared.thread.Move.{Move}
use Rattle.cps_frames.specs.declared.thread.Move.TheVariants as move
use Rattle.cps_frames.proofs.Probing.{nowhere, over_waits}
use Rattle.cps_machine.specs.Stops.{nodes_left}
use Rattle.cps_machine.proofs.EndLaws.{branch_end_spends, through_ended}
use Rattle.cps_code.specs.Script.{IsScript}
use Rattle.thread_fits.proofs.Facts.{facts_of, found_of}
use Rattle.cps_machine.proofs.InnerLaws.{IsThere, frame_there, passed_there}
use Rattle.cps_machine.specs.Turns.{HasPart, AskedSo, IsAsked, WaitsSo}

module _ (root : Term) (script : IsScript root) (g : Setting) (u : Common) (n : ℕ) where
  -- a state that the thread makes of u, in which no answer is still to come
  pub record Behind (s : State) : Type 0 where
    pub alone : s.replies ≡ []
    pub setting : s.world.setting ≡ g
    pub follows : Follows u s.world.shared
    pub number : s.world.own.number ≡ n

  -- and in which it has opened no request
  abbrev pub Unasked : State → Type 0
  Unasked s = Behind s × (s.world.shared.requests ≡ u.requests)

  -- request r is the one that it has opened, and of the kind that a wait at w is for
  pub record OpenAt (w : Within) (r : ℕ) (s : State) : Type 0 where
    pub latest : OpenRequest
    pub requests : s.world.shared.requests ≡ u.requests ++ latest ∷ []
    pub number : latest.number ≡ r
    pub thread : latest.thread ≡ n
    pub kind : AskedAt w latest.request

  -- inside the last of these frames, or at w
  abbrev pub OpenIn : Within → List Frame → ℕ → State → Type 0
  OpenIn w [] r s = OpenAt w r s
  OpenIn w (f ∷ fs) r s = OpenIn (row_at root f).inside fs r s

  abbrev pub WaitsIn : Within → Asked → List Frame → State → Type 0
  WaitsIn w (ForRequest r) path s = OpenIn w path r s
  WaitsIn w (ForBranches []) path s = ⊥
  WaitsIn w (ForBranches (b ∷ bs)) path s = s.world.shared.requests ≡ u.requests

  -- what stands at w inside a node's frames comes to
  abbrev pub GoesSo : Within → Result → Type 0
  GoesSo w (Ended e s) = Unasked s
  GoesSo w (Waits asked path s) = Behind s × WaitsIn w asked path s
  GoesSo w (Limited k s) = Unasked s
  GoesSo w Unfinished = Unit {0}

  behind_change : (h : World → World) (s : State) → Follows s.world.shared (h s.world).shared → (h s.world).own.number ≡ s.world.own.number → Behind s → Behind (with_world (h s.world) s)
  behind_change h s more same q = record { alone = q.alone; setting = q.setting; follows = follows_on u s.world.shared (h s.world).shared q.follows more; number = same ∙ q.number }

  behind_kept : (h : World → World) (s : State) → Keeps s.world (h s.world) → Unasked s → Unasked (with_world (h s.world) s)
  behind_kept h s keeps q = (behind_change h s (keeps_follows s.world (h s.world) keeps) keeps.number q.0, keeps.requests ∙ q.1)

  goes_unless : (w : Within) (o : Option LimitKind) (go : State → Result) (s : State) → Unasked s → GoesSo w (go s) → GoesSo w (unless_limit o go s)
  goes_unless w (Some k) go s q h = q
  goes_unless w None go s q h = h

  goes_reply : (w : Within) (asked : Asked) (s : State) (rs : List Reply) → s.replies ≡ rs → Behind s → WaitsIn w asked [] s → GoesSo w (reply_to asked s rs)
  goes_reply w asked s [] e q h = (q, h)
  goes_reply w asked s (r ∷ rs) e q h = let none : r ∷ rs ≡ [] = sym e ∙ q.alone in absurd (cc)

  open_else : (w w' : Within) (path : List Frame) (r : ℕ) (s : State) → ((x : Request) → AskedAt w x → AskedAt w' x) → OpenIn w path r s → OpenIn w' path r s
  open_else w w' [] r s up h = record { latest = h.latest; requests = h.requests; number = h.number; thread = h.thread; kind = up _ h.kind }
  open_else w w' (f ∷ fs) r s up h = h

  waits_else : (w w' : Within) (asked : Asked) (path : List Frame) (s : State) → ((x : Request) → AskedAt w x → AskedAt w' x) → WaitsIn w asked path s → WaitsIn w' asked path s
  waits_else w w' (ForRequest r) path s up h = open_else w w' path r s up h
  waits_else w w' (ForBranches []) path s up h = h
  waits_else w w' (ForBranches (b ∷ bs)) path s up h = h

  goes_else : (w w' : Within) (r : Result) → ((x : Request) → AskedAt w x → AskedAt w' x) → GoesSo w r → GoesSo w' r
  goes_else w w' (Ended e s) up h = h
  goes_else w w' (Waits asked path s) up h = (h.0, waits_else w w' asked path s up h.1)
  goes_else w w' (Limited k s) up h = h
  goes_else w w' Unfinished up h = h

  waits_under : (w : Within) (f : Frame) (asked : Asked) (path : List Frame) (s : State) → (row_at root f).inside ≡ w → WaitsIn w asked path s → WaitsIn Own_body asked (f ∷ path) s
  waits_under w f (ForRequest r) path s is h = subst (λ x. OpenIn x path r s) (sym is) h
  waits_under w f (ForBranches []) path s is h = h
  waits_under w f (ForBranches (b ∷ bs)) path s is h = h

  goes_through : (w : Within) (f : Frame) (go : Ending → State → Result) → (row_at root f).inside ≡ w → ((e : Ending) (s : State) → Unasked s → GoesSo Own_body (go e s)) → (r : Result) → GoesSo w r → GoesSo Own_body (through f go r)
  unfolding through
  goes_through w f go is h (Ended e s) q = h e s q
  goes_through w f go is h (Waits asked path s) q = (q.0, waits_under w f asked path s is q.1)
  goes_through w f go is h (Limited k s) q = q
  goes_through w f go is h Unfinished q = q

  abbrev There : ℕ → Within → Type 0
  There = IsThere root (found_of root script) script (facts_of root script)

  abbrev turn_relation : ℕ → Relation
  turn_relation k = record {
    States = λ s s'. Unasked s;
    Less = λ s s'. Unasked s;
    Results = λ r r'. GoesSo Own_body r;
    Inner = λ w r r'. There k w → GoesSo w r;
    Turns = λ r r'. GoesSo Own_body r;
    Calls = λ r r'. GoesSo Own_body r;
    Fits = λ f go. Unit {0};
    Stands = λ f w. ((row_at root f).inside ≡ w) × There k w;
    ends = λ e s s' q. q;
    limits = λ k s s' q. q;
    changes = λ g s s' keeps q. behind_kept g s keeps q;
    weakens = λ s s' q. q;
    turned = λ r r' q. q;
    looks = λ go go' s s' q h. h;
    looks_less = λ go go' s s' q h. h;
    descends = λ limit g go go' h s s' spends q. goes_unless Own_body (limit s.world) (changed g go) s q (h _ s' (behind_kept g s spends.keeps q));
    asks = λ r w at s s' q there.
        goes_reply w (ForRequest s.world.shared.next_request) (with_world (with_request r s.world) s) s.replies refl (behind_change (with_request r) s (asks_follows r s.world) refl q.0)
        (record { latest = record { number = s.world.shared.next_request; thread = s.world.own.number; request = r }; requests = ap (λ rs. rs ++ record { number = s.world.shared.next_request; thread = s.world.own.number; request = r } ∷ []) q.1; number = refl; thread = (q.0).number; kind = at });
    forks = λ b bs s s' q there. goes_reply _ (ForBranches (b ∷ bs)) s s.replies refl q.0 q.1;
    throughs = λ f w go go' fits stands h r r' q. goes_through w f go stands.0 (λ e s. h e s s) r (q stands.1);
    descends_through = λ f go go' fits stands h limit g body body' b s s' spends q.
        goes_through _ f go stands.0 (λ e s. h e s s) _ (goes_unless _ (limit s.world) (changed g body) s q (goes_else Own_body _ _ (λ x a. absurd a) (b _ s' (behind_kept g s spends.keeps q))));
  }

  -- what begins anything else waits at once
  abbrev resting : State → Result
  resting s = Waits (ForBranches (nowhere root ∷ [])) [] s

  -- a part of a part that is not there
  abbrev nowhere_at : State → Result
  nowhere_at s = Waits (ForBranches []) [] s

  abbrev resting_if : Bool → State → Result
  resting_if true = resting
  resting_if false = nowhere_at

  abbrev resting_part : ℕ → Entry → ℕ → State → Result
  resting_part k (Inside j) i = resting_if (nat_lt j (arity (shape_of (part_of root (term_at root k) i))))
  resting_part k e i = resting

  abbrev resting_around : ℕ → Around
  resting_around k = record { part = λ e i env. resting_part k e i; again = λ i kept env. resting; call = λ p args env. resting }

  rests_if : (w : Within) (j m : ℕ) (s : State) → j < m → Unasked s → GoesSo w (resting_if (nat_lt j m) s)
  rests_if w j m s lt q = subst (λ b. GoesSo w (resting_if b s)) (sym (lt-ltb j m lt)) q

  part_rests : (k : ℕ) (e : Entry) → OfPart e → (i : ℕ) (s : State) → Unasked s → There k (within e i) → GoesSo (within e i) (resting_part k e i s)
  part_rests k First of i s q there = q
  part_rests k (Inside j) of i s q there = rests_if (Inner i j) j (arity (shape_of (part_of root (term_at root k) i))) s there q
  part_rests k (On v) of i s q there = q
  part_rests k (Turn j kept) of i s q there = absurd of
  part_rests k (Body args) of i s q there = absurd of
  part_rests k (Branched start) of i s q there = absurd of

  passes_no_wait : (sh : Shape) (w : Within) → passes sh w ≡ true → (x : Request) → AskedAt w x → AskedAt Own_body x
  passes_no_wait sh Executor_wait pass x at = absurd (cc pass)
  passes_no_wait sh Task_wait pass x at = absurd (cc pass)
  passes_no_wait sh Person_wait pass x at = absurd (cc pass)
  passes_no_wait sh w pass x at = absurd at

  agrees : (k : ℕ) → Agree (turn_relation k) (shape_at root k) k (resting_around k) (resting_around k)
  agrees k = record {
    parts = λ e of i env s s' q there. part_rests k e of i s q there;
    agains = λ i kept env s s' q. q;
    calls = λ c args env s s' q. q;
    fits = λ f at m. tt;
    stands = λ f at own m. (ap (λ j. (row_of (shape_at root j) f).inside) at, frame_there root (found_of root script) script (facts_of root script) k f.kind f.left f.env f.values (record { stands = m.stands; left = m.left; values = m.values }));
    passed = λ w pass r r' q. goes_else w Own_body r (passes_no_wait (shape_at root k) w pass) (q (passed_there root (found_of root script) script (facts_of root script) k w pass));
    called = λ enters r r' q. q;
  }

  inside_is : (k : ℕ) (f : Frame) (w : Within) → f.node ≡ k → (row_of (shape_at root k) f).inside ≡ w → (row_at root f).inside ≡ w
  inside_is k f w at e = ap (λ j. (row_of (shape_at root j) f).inside) at ∙ e

  closure_callable : (f : NodeForm) → is_closure_form f ≡ true → is_callable f ≡ true
  closure_callable (form.Closure heads) e = refl
  closure_callable f e = absurd (cc e)

  bodies : (k : ℕ) → is_callable (shape_at root k).form ≡ true → BodiesGo (turn_relation k) (shape_at root k) k (resting_around k) (resting_around k)
  bodies k call =
      bodies_law (turn_relation k) (shape_at root k) k (resting_around k) (resting_around k) (λ s s' q. (behind_change opened s (follows_itself s.world.shared) refl q.0, q.1)) (λ s s' q. (behind_change closed s (follows_itself s.world.shared) refl q.0, q.1))
      (λ f is at m. (inside_is k f (Part 0) at (ap (λ d. (frame_row d (shape_at root k) f.left f.env).inside) is), tt)) (λ f at m. tt) (λ env s s' q there. q) call

  entered_so : (k : ℕ) (e : Entry) → Entered (turn_relation k) (shape_at root k) k (resting_around k) (resting_around k) e
  entered_so k First = agrees k
  entered_so k (Inside i) = λ env s s' q. q
  entered_so k (On v) = agrees k
  entered_so k (Turn i kept) = agrees k
  entered_so k (Body args) = bodies k
  entered_so k (Branched start) = λ closure. record {
    fits = λ f is at m. tt;
    stands = λ f is at m. (inside_is k f Own_body at (ap (λ d. (frame_row d (shape_at root k) f.left f.env).inside) is), tt);
    bodies = λ env s s' q there. body_law (turn_relation k) (shape_at root k) k (resting_around k) (resting_around k) (bodies k (closure_callable (shape_at root k).form closure)) env [] s s' q;
  }

  -- so goes a node that is entered, and a frame that meets the table
  enters_so : (k : ℕ) (e : Entry) (env : Env) (s : State) → Unasked s → GoesSo Own_body (enter e (resting_around k) k (shape_at root k) env s)
  enters_so k e env s q = enter_law (turn_relation k) k (resting_around k) (resting_around k) (shape_at root k).parts e (shape_at root k).form env (entered_so k e) s s q

  ends_so : (f : Frame) → MeetsRow anything (shape_at root f.node) f → (e : Ending) (s : State) → Unasked s → GoesSo Own_body (after f (shape_at root f.node) (resting_around f.node) e s)
  ends_so f m e s q = after_law (turn_relation f.node) (λ s s' q. q) (λ s s' q. (behind_change closed s (follows_itself s.world.shared) refl q.0, q.1)) (shape_at root f.node) (resting_around f.node) (resting_around f.node) f m (agrees f.node) e s s q

  -- at the spot inside these frames
  asks_at : (k : ℕ) (w : Within) (x : Request) → AskedAt w x → Asks (spot root k w) x
  asks_at k Executor_wait (Node label) at = tt
  asks_at k Task_wait (Task executor workspace folder env script status keep taken out) at = tt
  asks_at k Person_wait (Input id) at = tt
  asks_at k w x at = absurd at

  asked_in : (w : Within) (at : Spot) → ((x : Request) → AskedAt w x → Asks at x) → (fs : List Frame) (r : ℕ) (s : State) → OpenIn w fs r s → IsAsked (innermost root at fs) u.requests s.world.shared n r
  asked_in w at up [] r s h = record { latest = h.latest; requests = h.requests; number = h.number; thread = h.thread; kind = up _ h.kind }
  asked_in w at up (f ∷ fs) r s h = asked_in (row_at root f).inside (spot_in root f) (asks_at f.node (row_at root f).inside) fs r s h

  -- what a move leaves that has put these frames up
  pub record Left (fs : List Frame) (m : Move) (v : Standing) : Type 0 where
    pub follows : Follows u v.world.shared
    pub number : v.world.own.number ≡ n
    pub asked : (at : Spot) → WaitsSo (innermost root at fs) u.requests v m
    pub inside : HasPart root m

  quiet : (fs : List Frame) (m : Move) (v : Standing) → ((at : Spot) → WaitsSo at u.requests v m) → HasPart root m → Behind (state v.world []) → Left fs m v
  quiet fs m v none there q = record { follows = q.follows; number = q.number; asked = λ at. none (innermost root at fs); inside = there }

  waits_so : (fs : List Frame) (asked : Asked) (v : Standing) → v.world.own.number ≡ n → WaitsIn Own_body asked fs (state v.world []) → (at : Spot) → AskedSo (innermost root at fs) u.requests v asked
  waits_so fs (ForRequest r) v is h at = subst (λ j. IsAsked (innermost root at fs) u.requests v.world.shared j r) (sym is) (asked_in Own_body at (λ x a. absurd a) fs r (state v.world []) h)
  waits_so fs (ForBranches []) v is h at = absurd h
  waits_so fs (ForBranches (b ∷ bs)) v is h at = h

  rested : (k : ℕ) (fs : List Frame) (asked : Asked) (v : Standing) → GoesSo Own_body (over (shape_at root k) (resting_around k) fs (Waits asked [] (state v.world []))) → Behind (state v.world []) × WaitsIn Own_body asked fs (state v.world [])
  rested k fs asked v h = subst (GoesSo Own_body) (over_waits (shape_at root k) (resting_around k) fs asked (state v.world [])) h

  left_by : (k : ℕ) (how : How) (fs : List Frame) (m : Move) (v : Standing) → Placed root k how fs m → GoesSo Own_body (over (shape_at root k) (resting_around k) fs (does (resting_around k) how m (state v.world []))) → Left fs m v
  left_by k how [] (move.Ends e) v p h = quiet [] (move.Ends e) v (λ at. h.1) tt h.0
  left_by k how (x ∷ xs) (move.Ends e) v p h = absurd (cc p)
  left_by k how [] (move.Hits l) v p h = quiet [] (move.Hits l) v (λ at. h.1) tt h.0
  left_by k how (x ∷ xs) (move.Hits l) v p h = absurd (cc p)
  left_by k (As_part i) fs (move.Enter First p env) v placed h = quiet fs (move.Enter First p env) v (λ at. (rested k fs _ v h).1) tt (rested k fs _ v h).0
  left_by k (As_part i) fs (move.Enter (On x) p env) v placed h = quiet fs (move.Enter (On x) p env) v (λ at. (rested k fs _ v h).1) tt (rested k fs _ v h).0
  left_by k (As_part i) fs (move.Enter (Inside j) p env) v placed h = by_part (nat_lt j (arity (shape_of (part_of root (term_at root k) i)))) refl h
    where
      by_part : (b : Bool) → nat_lt j (arity (shape_of (part_of root (term_at root k) i))) ≡ b → GoesSo Own_body (over (shape_at root k) (resting_around k) fs (resting_if b (state v.world []))) → Left fs (move.Enter (Inside j) p env) v
      by_part true is h = quiet fs (move.Enter (Inside j) p env) v (λ at. (rested k fs (ForBranches (nowhere root ∷ [])) v h).1) (subst (λ t. j < arity (shape_of t)) (sym (placed.0).found) (ltb-true j (arity (shape_of (part_of root (term_at root k) i))) is)) (rested k fs (ForBranches (nowhere root ∷ [])) v h).0
      by_part false is h = absurd (rested k fs (ForBranches []) v h).1
  left_by k (As_part i) fs (move.Enter e p env) v placed h = absurd placed.1
  left_by k Again fs (move.Enter (Turn i kept) p env) v placed h = quiet fs (move.Enter (Turn i kept) p env) v (λ at. (rested k fs _ v h).1) tt (rested k fs _ v h).0
  left_by k Again fs (move.Enter e p env) v placed h = absurd placed.1
  left_by k Call fs (move.Enter (Body args) p env) v placed h = quiet fs (move.Enter (Body args) p env) v (λ at. (rested k fs _ v h).1) tt (rested k fs _ v h).0
  left_by k Call fs (move.Enter e p env) v placed h = absurd placed
  left_by k how fs (move.Asks asked) v p h =
      let w = rested k fs asked v h in
      record { follows = (w.0).follows; number = (w.0).number; asked = waits_so fs asked v (w.0).number w.1; inside = tt }

  begun_behind : (w : World) → w.setting ≡ g → w.shared ≡ u → w.own.number ≡ n → Unasked (state w [])
  begun_behind w at is same = (record { alone = refl; setting = at; follows = subst (Follows u) (sym is) (follows_itself u); number = same }, ap (λ (x : Common). x.requests) is)

  -- a branch that ends as it begins
  branch_of : (k start : ℕ) (env : Env) (f : NodeForm) (s : State) (e' : Ending) (s' : State) → is_closure_form f ≡ true → Unasked s → is_closure_form (shape_at root k).form ≡ true → branched (resting_around k) k (shape_at root k) env start f s ≡ Ended e' s' → (e : Ending) × (s1 : State) × Unasked s1 × (after_branch start e s1 ≡ Ended e' s')
  branch_of k start env (form.Closure heads) s e' s' closure q here h =
      let in_frame = through_ended (frame kind.BranchBody k 0 env (whole start ∷ [])) (after_branch start) (body (resting_around k) (shape_at root k) k env [] s) e' s' h in
      let inner : GoesSo Own_body (body (resting_around k) (shape_at root k) k env [] s) = body_law (turn_relation k) (shape_at root k) k (resting_around k) (resting_around k) (bodies k (closure_callable (shape_at root k).form here)) env [] s s q in
      (in_frame.0, in_frame.1, subst (GoesSo Own_body) in_frame.2 inner, in_frame.3)
  branch_of k start env f s e' s' closure q here h = absurd (cc closure)

  pub branch_begun_ends : (k start : ℕ) (env : Env) (w : World) (e' : Ending) (s' : State) → w.setting ≡ g → w.shared ≡ u → w.own.number ≡ n → is_closure_form (shape_at root k).form ≡ true → enter (Branched start) (resting_around k) k (shape_at root k) env (state w []) ≡ Ended e' s' → suc (nodes_left s'.world) ≤ nodes_left w
  branch_begun_ends k start env w e' s' at is same closure h =
      let b = branch_of k start env (shape_at root k).form (state w []) e' s' closure (begun_behind w at is same) closure h in
      let ends : suc (nodes_left s'.world) ≤ nodes_left (b.1).world = branch_end_spends start b.0 b.1 e' s' b.3 in
      let longer : length u.nodes ≤ length (b.1).world.shared.nodes = front_length u.nodes (b.1).world.shared.nodes ((((b.2).0).follows).later).nodes in
      let limit : (b.1).world.setting.limits.flow_nodes ≡ w.setting.limits.flow_nodes = ap (λ (x : Setting). x.limits.flow_nodes) (((b.2).0).setting ∙ sym at) in
      let nodes : length u.nodes ≡ length w.shared.nodes = ap (λ (x : Common). length x.nodes) (sym is) in
      omega (arith, ends, longer, limit, nodes)

-- A move of a frame, and of a node that is entered.
pub frame_leaves : (r : ℕ) (u : Standing) (script : IsScript u.world.setting.script) (f : Frame) (e : Ending) (m : Move) (v : Standing) → MeetsRow anything (shape_at u.world.setting.script f.node) f → (c : Comes f.node r (λ sh a. after f sh a e) u m v) → Left u.world.setting.script script u.world.setting u.world.shared u.world.own.number c.frames m v
frame_leaves r u script f e m v meets c =
    left_by u.world.setting.script script u.world.setting u.world.shared u.world.own.number f.node c.how c.frames m v c.placed
    (subst (GoesSo u.world.setting.script script u.world.setting u.world.shared u.world.own.number Own_body) (c.same (resting_around u.world.setting.script script u.world.setting u.world.shared u.world.own.number f.node) [])
    (ends_so u.world.setting.script script u.world.setting u.world.shared u.world.own.number f meets e (state u.world []) (begun_behind u.world.setting.script script u.world.setting u.world.shared u.world.own.number u.world refl refl refl)))

pub entry_leaves : (r : ℕ) (u : Standing) (script : IsScript u.world.setting.script) (e : Entry) (k : ℕ) (env : Env) (m : Move) (v : Standing) → (c : Comes k r (λ sh a. enter e a k sh env) u m v) → Left u.world.setting.script script u.world.setting u.world.shared u.world.own.number c.frames m v
entry_leaves r u script e k env m v c =
    left_by u.world.setting.script script u.world.setting u.world.shared u.world.own.number k c.how c.frames m v c.placed
    (subst (GoesSo u.world.setting.script script u.world.setting u.world.shared u.world.own.number Own_body) (c.same (resting_around u.world.setting.script script u.world.setting u.world.shared u.world.own.number k) [])
    (enters_so u.world.setting.script script u.world.setting u.world.shared u.world.own.number k e env (state u.world []) (begun_behind u.world.setting.script script u.world.setting u.world.shared u.world.own.number u.world refl refl refl)))

-- A branch that ends as it begins, or behind the last of its frames.
pub entry_ends : (r : ℕ) (u : Standing) (script : IsScript u.world.setting.script) (start k : ℕ) (env : Env) (e' : Ending) (v : Standing) → is_closure_form (shape_at u.world.setting.script k).form ≡ true → (c : Comes k r (λ sh a. enter (Branched start) a k sh env) u (move.Ends e') v) → suc (nodes_left v.world) ≤ nodes_left u.world
entry_ends r u script start k env e' v closure c =
    branch_begun_ends u.world.setting.script script u.world.setting u.world.shared u.world.own.number k start env u.world e' (state v.world []) refl refl refl closure
    (c.same (resting_around u.world.setting.script script u.world.setting u.world.shared u.world.own.number k) [] ∙ ap (λ fs. over (shape_at u.world.setting.script k) (resting_around u.world.setting.script script u.world.setting u.world.shared u.world.own.number k) fs (Ended e' (state v.world []))) c.placed)

pub frame_ends : (r : ℕ) (u : Standing) (script : IsScript u.world.setting.script) (f : Frame) (e e' : Ending) (v : Standing) → f.kind ≡ kind.BranchBody → (c : Comes f.node r (λ sh a. after f sh a e) u (move.Ends e') v) → suc (nodes_left v.world) ≤ nodes_left u.world
frame_ends r u script f e e' v is c =
    let a : Around = resting_around u.world.setting.script script u.world.setting u.world.shared u.world.own.number f.node in
    let sh : Shape = shape_at u.world.setting.script f.node in
    branch_end_spends (position (value_at 0 f.values)) e (state u.world []) e' (state v.world [])
    (ap (λ d. after_kind a f.node sh f.left f.env f.values d e (state u.world [])) (sym is) ∙ c.same a [] ∙ ap (λ fs. over sh a fs (Ended e' (state v.world []))) c.placed)
