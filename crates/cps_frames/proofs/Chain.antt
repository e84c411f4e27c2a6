-- What a move puts up stands where its frame, or its node, stood.
use Rattle.std.proofs.Common.{◌≡◌, ◌∙◌, ℕ, true, false, List, [], ◌∷◌, Option, Some, None, refl, sym, ap, subst}
use Rattle.std.specs.List.{AllByRecursion as AllAre}
use Rattle.model_syntax.specs.declared.node.NodeForm.{NodeForm}
use Rattle.model_syntax.specs.declared.node.NodeForm.TheVariants as form
use Rattle.model_values.specs.declared.limit.LimitKind.{LimitKind}
use Rattle.model_values.specs.declared.value.Value.{Value}
use Rattle.model_run.specs.declared.ending.Asked.TheVariants.{ForRequest, ForBranches}
use Rattle.model_run.specs.declared.ending.Ending.{Ending}
use Rattle.model_run.specs.declared.ending.Ending.TheVariants.{Normal, Thrown, Returned, Broke, Continued, Declared, Answered}
use Rattle.model_run.specs.declared.ending.Entry.{Entry}
use Rattle.model_run.specs.declared.ending.Entry.TheVariants.{First, Inside, On, Turn, Body, Branched}
use Rattle.model_run.specs.declared.frame.Frame.{Frame}
use Rattle.model_run.specs.declared.frame.FrameKind.{FrameKind}
use Rattle.model_run.specs.declared.frame.FrameKind.TheVariants as kind
use Rattle.std.specs.Prelude.{◌++◌, codes}
use Rattle.model_run.specs.declared.flow.NodeKind.TheVariants.{EndBody as EndBodyNode}
use Rattle.model_run.specs.FlowNodes.{branch_name, line_limit, noted, noted_limit, pipeline, with_line}
use Rattle.model_run.specs.State.{World, Setting, State, Env, Result, Ended, Waits, Limited, Unfinished, through, unless_limit, changed, guarded}
use Rattle.model_run.specs.Around.{Around, Shape, frame, whole}
use Rattle.model_run.specs.Callables.{body}
use Rattle.model_run.specs.Forms.{enter, after, after_kind, branched}
use Rattle.model_run.specs.FrameTable.{Part as Part_within, Own_body, frame_row, is_callable, is_closure_form}
use Rattle.model_run.specs.Nesting.{MeetsRow, anything, Spot, Begun, Any_body, Body_of, Any_branch, is_own, spot_in, shape_at, part_number, Leads, Enters, own_frame, entered, any_body, body_of as of_body, any_branch, Chained, innermost}
use Rattle.model_run.specs.Steps.{after_branch, branch_failed}
use Rattle.model_run.proofs.CallLaws.{BodiesGo, bodies_law, body_law}
use Rattle.model_run.proofs.FormLaws.{Entered, after_law, enter_law}
use Rattle.model_run.proofs.LaterLaws.{frame_wider}
use Rattle.model_run.proofs.Relation.{Agree}
use Rattle.run_laws.specs.Soundness.{Base, setting_of, seen, Sits}
use Rattle.run_laws.proofs.Evaluation.{ScriptFacts}
use Rattle.cps_frames.specs.Standing.{Standing, state}
use Rattle.cps_frames.specs.Moves.{How, Part, Again, Call, Placed, does, over, IsNew, Comes}
use Rattle.cps_frames.specs.Places.{EntersBy, EntersWith}
use Rattle.cps_frames.specs.declared.thread.Move.{Move}
use Rattle.cps_frames.specs.declared.thread.Move.TheVariants.{Ends, Hits, Enter, Asks}
use Rattle.cps_frames.proofs.Keeping.{number_there}
use Rattle.cps_frames.proofs.MoveLaws.{Saying}
use Rattle.cps_frames.proofs.Fronts.{mark_of, asked_of, StandsAt, GoesIn, inside_at, does_wait, shown, Own, Plains, own_front, body_front}
use Rattle.cps_frames.proofs.Marking.{Mark, marked, marked_agrees, part_marks, Fronted, Shows, ShowsIn, showing}
use Rattle.cps_frames.proofs.Probing.{over_waits}

-- it does not wait
abbrev pub EndsHere : Result → Type 0
EndsHere (Waits asked path s) = ⊥
EndsHere r = Unit {0}

unless_ends : (o : Option LimitKind) (go : State → Result) (s : State) → EndsHere (go s) → EndsHere (unless_limit o go s)
unless_ends (Some k) go s h = tt
unless_ends None go s h = h

guard_ends : (limit : World → Option LimitKind) (g : World → World) (go : State → Result) → ((s : State) → EndsHere (go s)) → (s : State) → EndsHere (guarded limit g go s)
guard_ends limit g go h s = unless_ends (limit s.world) (changed g go) s (h _)

failed_ends : (start : ℕ) (e : Ending) (s : State) → EndsHere (branch_failed start e s)
failed_ends start (Thrown c) s =
    guard_ends (line_limit (codes "Failed in branch " ++ branch_name start s.world.shared.nodes)) (with_line (codes "Failed in branch " ++ branch_name start s.world.shared.nodes)) (Ended (Thrown c)) (λ s. tt) s
failed_ends start (Normal v) s = tt
failed_ends start (Returned v) s = tt
failed_ends start Broke s = tt
failed_ends start Continued s = tt
failed_ends start (Declared b) s = tt
failed_ends start (Answered x) s = tt

branch_ends : (start : ℕ) (e : Ending) (s : State) → EndsHere (after_branch start e s)
branch_ends start e s = guard_ends (noted_limit (pipeline (codes "}"))) (λ w. noted EndBodyNode [] start (w.own.head ∷ []) (pipeline (codes "}")) w) (branch_failed start e) (failed_ends start e) s

-- what a frame of a body goes on with ends
other_ends : (a : Around) (k : ℕ) (sh : Shape) (left : ℕ) (env : Env) (vs : List Value) (d : FrameKind) → is_own d ≡ false → (e : Ending) (s : State) → EndsHere (after_kind a k sh left env vs d e s)
other_ends a k sh left env vs kind.CallBody is e s = tt
other_ends a k sh left env vs kind.BranchBody is e s = branch_ends _ e s
other_ends a k sh left env vs d is e s = absurd (cc is)

-- nothing is done next where it ends
over_ends : (root : _) (k : ℕ) (sh : Shape) (how : How) (fs : List Frame) (m : Move) (w : _) → GoesIn m → Placed root k how fs m → EndsHere (over sh (marked (mark_of how m)) fs (does (marked (mark_of how m)) how m (state w []))) → ⊥
over_ends root k sh how fs m w on p h =
    subst EndsHere (ap (over sh (marked (mark_of how m)) fs) (does_wait root k how fs m w on p) ∙ over_waits sh (marked (mark_of how m)) fs (asked_of m) (state w [])) h

-- a frame, for whatever its values
pub loosely : (g : Base) (u : _) (f : Frame) → Sits g.script u f → MeetsRow anything (shape_at g.script f.node) f
loosely g u f sits = (frame_wider (seen u) anything (λ s x h. tt) g.script f sits.fits).meets

module _ (g : Base) (facts : ScriptFacts g.script) where
  -- what a move says, where it is marked
  module _ (k r : ℕ) (says : Saying) (u v : Standing) (m : Move) (is : u.world.setting ≡ setting_of g) (c : Comes k r says u m v) where
    placed_in : Placed g.script k c.how c.frames m
    placed_in = subst (λ (s : Setting). Placed s.script k c.how c.frames m) is c.placed

    same_in : says (shape_at g.script k) (marked (mark_of c.how m)) (state u.world []) ≡ over (shape_at g.script k) (marked (mark_of c.how m)) c.frames (does (marked (mark_of c.how m)) c.how m (state v.world []))
    same_in = subst (λ (s : Setting). says (shape_at s.script k) (marked (mark_of c.how m)) (state u.world []) ≡ over (shape_at s.script k) (marked (mark_of c.how m)) c.frames (does (marked (mark_of c.how m)) c.how m (state v.world []))) is (c.same (marked (mark_of c.how m)) [])

    fronted : (K : FrameKind → Type 0) (T : Type 0) → GoesIn m → Shows K T (mark_of c.how m) (shape_at g.script k) (says (shape_at g.script k) (marked (mark_of c.how m)) (state u.world [])) → Fronted K T (mark_of c.how m) (shape_at g.script k) c.frames (asked_of m)
    fronted K T on h = shown K T g.script k (shape_at g.script k) c.how c.frames m v.world on placed_in (subst (Shows K T (mark_of c.how m) (shape_at g.script k)) same_in h)

  -- behind a frame where it stood
  module _ (r : ℕ) (f : Frame) (e : Ending) (u v : Standing) (m : Move) (is : u.world.setting ≡ setting_of g) (meets : MeetsRow anything (shape_at g.script f.node) f) (c : Comes f.node r (λ sh a. after f sh a e) u m v) where
    own_shows : Shows Own (Unit {0}) (mark_of c.how m) (shape_at g.script f.node) (after f (shape_at g.script f.node) (marked (mark_of c.how m)) e (state u.world []))
    own_shows = after_law (showing Own (Unit {0}) (mark_of c.how m) (shape_at g.script f.node)) (λ s s' q. q) (λ s s' q. tt) (shape_at g.script f.node) (marked (mark_of c.how m)) (marked (mark_of c.how m)) f meets
        (marked_agrees Own (Unit {0}) (mark_of c.how m) (shape_at g.script f.node) (λ d own. own) tt f.node) e (state u.world []) (state u.world []) tt

    not_own : GoesIn m → is_own f.kind ≡ false → ⊥
    not_own on other =
        over_ends g.script f.node (shape_at g.script f.node) c.how c.frames m v.world on (placed_in f.node r _ u v m is c)
        (subst EndsHere (same_in f.node r _ u v m is c) (other_ends (marked (mark_of c.how m)) f.node (shape_at g.script f.node) f.left f.env f.values f.kind other e (state u.world [])))

    pub frame_chain : (at : Spot) → Enters g.script f at → Plains g facts f.node c.frames → GoesIn m → Chained g.script at c.frames × StandsAt g.script (innermost g.script at c.frames) m
    frame_chain (Begun q) (own_frame own leads) plain on =
        own_front g facts q f.node leads c.how c.frames m c.new plain on (placed_in f.node r _ u v m is c) (fronted f.node r (λ sh a. after f sh a e) u v m is c Own (Unit {0}) on own_shows)
    frame_chain (Begun q) (entered j is leads call) plain on = absurd (not_own on (ap is_own is))
    frame_chain Any_body (any_body is) plain on = absurd (not_own on (ap is_own is))
    frame_chain (Body_of q) (of_body is at) plain on = absurd (not_own on (ap is_own is))
    frame_chain Any_branch (any_branch is) plain on = absurd (not_own on (ap is_own is))
    frame_chain at e plain on = elim e [ ]

  -- a body inside the frame of a call
  module _ (k : ℕ) (mark : Mark) where
    bodies_show : is_callable (shape_at g.script k).form ≡ true → BodiesGo (showing (λ d. d ≡ kind.CallBody) ⊥ mark (shape_at g.script k)) (shape_at g.script k) k (marked mark) (marked mark)
    bodies_show call =
        bodies_law (showing (λ d. d ≡ kind.CallBody) ⊥ mark (shape_at g.script k)) (shape_at g.script k) k (marked mark) (marked mark) (λ s s' q. tt) (λ s s' q. tt)
        (λ x is at meets. record { own = is; inside = ap (λ d. (frame_row d (shape_at g.script k) x.left x.env).inside) is }) (λ x at meets. tt)
        (λ env s s' q. part_marks (λ d. d ≡ kind.CallBody) ⊥ mark (shape_at g.script k) (Part_within 0) _ s refl) call

    -- a branch: its frame, and the body inside it
    abbrev ShowsBranch : Result → Type 0
    ShowsBranch (Waits asked [] s) = ⊥
    ShowsBranch (Waits asked (f ∷ fs) s) = (f.kind ≡ kind.BranchBody) × Fronted (λ d. d ≡ kind.CallBody) ⊥ mark (shape_at g.script k) fs asked
    ShowsBranch r = Unit {0}

    ends_branch : (r : Result) → EndsHere r → ShowsBranch r
    ends_branch (Waits asked path s) h = absurd h
    ends_branch (Ended e s) h = tt
    ends_branch (Limited l s) h = tt
    ends_branch Unfinished h = tt

    through_branch : (start : ℕ) (env : Env) (vs : List Value) (r : Result) → Shows (λ d. d ≡ kind.CallBody) ⊥ mark (shape_at g.script k) r → ShowsBranch (through (frame kind.BranchBody k 0 env vs) (after_branch start) r)
    unfolding through
    through_branch start env vs (Waits asked path s) h = (refl, h)
    through_branch start env vs (Ended e s) h = ends_branch _ (branch_ends start e s)
    through_branch start env vs (Limited l s) h = tt
    through_branch start env vs Unfinished h = tt

    branch_shows : (f : NodeForm) → (shape_at g.script k).form ≡ f → is_closure_form f ≡ true → (env : Env) (start : ℕ) (s : State) → ShowsBranch (branched (marked mark) k (shape_at g.script k) env start f s)
    branch_shows (form.Closure heads) is closure env start s =
        through_branch start env (whole start ∷ []) _ (body_law (showing (λ d. d ≡ kind.CallBody) ⊥ mark (shape_at g.script k)) (shape_at g.script k) k (marked mark) (marked mark) (bodies_show (ap is_callable is)) env [] s s tt)
    branch_shows f is closure env start s = absurd (cc closure)

  -- a node, from where it was entered
  module _ (r : ℕ) (e : Entry) (k : ℕ) (env : Env) (u v : Standing) (m : Move) (is : u.world.setting ≡ setting_of g) (c : Comes k r (λ sh a. enter e a k sh env) u m v) where
    -- as its form does
    full : Entered (showing Own (Unit {0}) (mark_of c.how m) (shape_at g.script k)) (shape_at g.script k) k (marked (mark_of c.how m)) (marked (mark_of c.how m)) e → (q : ℕ) → Leads g.script q k → Plains g facts k c.frames → GoesIn m → Chained g.script (Begun q) c.frames × StandsAt g.script (innermost g.script (Begun q) c.frames) m
    full h q leads plain on =
        own_front g facts q k leads c.how c.frames m c.new plain on (placed_in k r _ u v m is c)
        (fronted k r (λ sh a. enter e a k sh env) u v m is c Own (Unit {0}) on
        (enter_law (showing Own (Unit {0}) (mark_of c.how m) (shape_at g.script k)) k (marked (mark_of c.how m)) (marked (mark_of c.how m)) (shape_at g.script k).parts e (shape_at g.script k).form env h (state u.world []) (state u.world []) tt))

    agrees : Agree (showing Own (Unit {0}) (mark_of c.how m) (shape_at g.script k)) (shape_at g.script k) k (marked (mark_of c.how m)) (marked (mark_of c.how m))
    agrees = marked_agrees Own (Unit {0}) (mark_of c.how m) (shape_at g.script k) (λ d own. own) tt k

  -- a node that is entered for one of its parts alone
  inside_front : (q k j : ℕ) → Leads g.script q (part_number g.script k j) → (how : How) (fs : List Frame) (m : Move) (s : State) → GoesIn m → Placed g.script k how fs m → ShowsIn Own (Unit {0}) (mark_of how m) (shape_at g.script k) (Part_within j) (Waits (asked_of m) fs s)
      → Chained g.script (Begun q) fs × StandsAt g.script (innermost g.script (Begun q) fs) m
  inside_front q k j leads how (f ∷ fs) m s on p h = absurd h
  inside_front q k j leads how [] (Ends e) s on p h = absurd on
  inside_front q k j leads how [] (Hits l) s on p h = absurd on
  inside_front q k j leads how [] (Asks (ForRequest n)) s on p h = absurd h
  inside_front q k j leads how [] (Asks (ForBranches [])) s on p h = absurd h
  inside_front q k j leads how [] (Asks (ForBranches (b ∷ bs))) s on p h = absurd h
  inside_front q k j leads (Part i) [] (Enter First p env) s on part h =
      let e : j ≡ i = cc h in
      (tt, subst (Leads g.script q) (ap (part_number g.script k) e ∙ number_there g facts k i p part.0) leads)
  inside_front q k j leads (Part i) [] (Enter (Inside l) p env) s on part h = absurd (cc h)
  inside_front q k j leads (Part i) [] (Enter (On v) p env) s on part h = absurd (cc h)
  inside_front q k j leads (Part i) [] (Enter e p env) s on part h = absurd part.1
  inside_front q k j leads Again [] (Enter e p env) s on turn h = absurd h
  inside_front q k j leads Call [] (Enter e p env) s on body h = absurd (cc h)

  branch_front : (k : ℕ) → is_callable (shape_at g.script k).form ≡ true → (how : How) (fs all : List Frame) (m : Move) (s : State) → AllAre (IsNew k) fs → Plains g facts k fs → GoesIn m → Placed g.script k how all m → ShowsBranch k (mark_of how m) (Waits (asked_of m) fs s)
      → Chained g.script Any_branch fs × StandsAt g.script (innermost g.script Any_branch fs) m
  branch_front k call how [] all m s new plain on p h = absurd h
  branch_front k call how (f ∷ fs) all m s new plain on p h =
      let inner : spot_in g.script f ≡ Body_of k = inside_at g facts k f Own_body new.0 (ap (λ d. (frame_row d (shape_at g.script k) f.left f.env).inside) h.0) in
      let rest = body_front g facts (Body_of k) k (λ x is at. of_body is at) call how fs all m new.1 plain.1 on p h.1 in
      subst (λ (at : Spot). (Enters g.script f Any_branch × Chained g.script at fs) × StandsAt g.script (innermost g.script at fs) m) (sym inner) ((any_branch h.0, rest.0), rest.1)

  -- the body of a call, where its frame may stand
  body_chain : (r : ℕ) (args : List Value) (k : ℕ) (env : Env) (u v : Standing) (m : Move) (is : u.world.setting ≡ setting_of g) (c : Comes k r (λ sh a. enter (Body args) a k sh env) u m v) (at : Spot) → ((f : Frame) → f.kind ≡ kind.CallBody → f.node ≡ k → Enters g.script f at) → is_callable (shape_at g.script k).form ≡ true → Plains g facts k c.frames → GoesIn m
      → Chained g.script at c.frames × StandsAt g.script (innermost g.script at c.frames) m
  body_chain r args k env u v m is c at up call plain on =
      body_front g facts at k up call c.how c.frames c.frames m c.new plain on (placed_in k r _ u v m is c)
      (fronted k r (λ sh a. enter (Body args) a k sh env) u v m is c (λ d. d ≡ kind.CallBody) ⊥ on
      (enter_law (showing (λ d. d ≡ kind.CallBody) ⊥ (mark_of c.how m) (shape_at g.script k)) k (marked (mark_of c.how m)) (marked (mark_of c.how m)) (shape_at g.script k).parts (Body args) (shape_at g.script k).form env (λ callable. bodies_show k (mark_of c.how m) callable) (state u.world []) (state u.world []) tt))

  closure_callable : (f : NodeForm) → is_closure_form f ≡ true → is_callable f ≡ true
  closure_callable (form.Closure heads) e = refl
  closure_callable f e = absurd (cc e)

  -- what is shown of a marked move
  waits_so : (k r : ℕ) (says : Saying) (u v : Standing) (m : Move) (is : u.world.setting ≡ setting_of g) (c : Comes k r says u m v) → GoesIn m → says (shape_at g.script k) (marked (mark_of c.how m)) (state u.world []) ≡ Waits (asked_of m) c.frames (state v.world [])
  waits_so k r says u v m is c on = same_in k r says u v m is c ∙ ap (over (shape_at g.script k) (marked (mark_of c.how m)) c.frames) (does_wait g.script k c.how c.frames m v.world on (placed_in k r says u v m is c)) ∙ over_waits (shape_at g.script k) (marked (mark_of c.how m)) c.frames (asked_of m) (state v.world [])

  -- What a node puts up stands where the node was entered.
  pub entry_chain : (r : ℕ) (e : Entry) (k : ℕ) (env : Env) (u v : Standing) (m : Move) (is : u.world.setting ≡ setting_of g) (c : Comes k r (λ sh a. enter e a k sh env) u m v) (at : Spot) → EntersBy g.script at e k → EntersWith g.script u.world.shared e k env → Plains g facts k c.frames → GoesIn m
      → Chained g.script at c.frames × StandsAt g.script (innermost g.script at c.frames) m
  entry_chain r First k env u v m is c (Begun q) by fit plain on = full r First k env u v m is c (agrees r First k env u v m is c) q by plain on
  entry_chain r (On x) k env u v m is c (Begun q) by fit plain on = full r (On x) k env u v m is c (agrees r (On x) k env u v m is c) q by.0 plain on
  entry_chain r (Turn i kept) k env u v m is c (Begun q) by fit plain on = full r (Turn i kept) k env u v m is c (agrees r (Turn i kept) k env u v m is c) q by plain on
  entry_chain r (Inside j) k env u v m is c (Begun q) by fit plain on =
      inside_front q k j by c.how c.frames m (state v.world []) on (placed_in k r _ u v m is c)
      (subst (ShowsIn Own (Unit {0}) (mark_of c.how m) (shape_at g.script k) (Part_within j)) (waits_so k r (λ sh a. enter (Inside j) a k sh env) u v m is c on)
      (part_marks Own (Unit {0}) (mark_of c.how m) (shape_at g.script k) (Part_within j) _ (state u.world []) refl))
  entry_chain r (Body args) k env u v m is c (Begun q) by fit plain on = body_chain r args k env u v m is c (Begun q) (λ f body at. entered by.0 body by.1 by.2) fit.0 plain on
  entry_chain r (Body args) k env u v m is c Any_body by fit plain on = body_chain r args k env u v m is c Any_body (λ f body at. any_body body) fit.0 plain on
  entry_chain r (Body args) k env u v m is c (Body_of q) by fit plain on = body_chain r args k env u v m is c (Body_of q) (λ f body at. of_body body (at ∙ by)) fit.0 plain on
  entry_chain r (Branched start) k env u v m is c Any_branch by fit plain on =
      branch_front k (closure_callable (shape_at g.script k).form fit.0) c.how c.frames c.frames m (state v.world []) c.new plain on (placed_in k r _ u v m is c)
      (subst (ShowsBranch k (mark_of c.how m)) (waits_so k r (λ sh a. enter (Branched start) a k sh env) u v m is c on)
      (branch_shows k (mark_of c.how m) (shape_at g.script k).form refl fit.0 env start (state u.world [])))
  entry_chain r First k env u v m is c at by fit plain on = absurd by
  entry_chain r (On x) k env u v m is c at by fit plain on = absurd by
  entry_chain r (Turn i kept) k env u v m is c at by fit plain on = absurd by
  entry_chain r (Inside j) k env u v m is c at by fit plain on = absurd by
  entry_chain r (Body args) k env u v m is c at by fit plain on = absurd by
  entry_chain r (Branched start) k env u v m is c at by fit plain on = absurd by
