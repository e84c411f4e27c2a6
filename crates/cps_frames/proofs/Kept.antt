-- What a move leaves: a later sound state, new frames that fit, and a next move that names what is there.
use Rattle.std.proofs.Common.{◌≡◌, ◌∙◌, ℕ, ◌+◌, ◌<◌, ◌≤◌, arith, Bool, true, false, List, [], ◌∷◌, length, refl, sym, ap, subst}
use Rattle.std.specs.Prelude.{not}
use Rattle.std.specs.List.{AllByRecursion as AllAre}
use Rattle.model_syntax.specs.declared.node.NodeForm.{NodeForm}
use Rattle.model_syntax.specs.declared.node.NodeForm.TheVariants as form
use Rattle.model_run.specs.declared.ending.Ending.{Ending}
use Rattle.model_run.specs.declared.ending.Ending.TheVariants.{Answered}
use Rattle.model_run.specs.declared.ending.Entry.{Entry}
use Rattle.model_run.specs.declared.ending.Entry.TheVariants.{Turn, Body}
use Rattle.model_run.specs.declared.frame.Frame.{Frame}
use Rattle.model_run.specs.declared.frame.FrameKind.TheVariants as kind
use Rattle.model_run.specs.declared.wait.Answer.TheVariants.{Begin, Granted, Done, Decided, Joined}
use Rattle.model_run.specs.Terms.{nodes_of}
use Rattle.model_run.specs.State.{Setting, Common, Env}
use Rattle.model_run.specs.Around.{form_at, frame}
use Rattle.model_run.specs.Forms.{enter, after, after_kind}
use Rattle.model_run.specs.FrameTable.{Within, Part as Part_within, Inner, Suffix, Called, Own_body, Executor_wait, Task_wait, Person_wait, Branches_wait, is_declaration}
use Rattle.model_run.specs.Nesting.{MeetsRow, Spot, For_executor, For_task, For_person, For_branches, shape_at, part_number, row_at, spot, spot_in}
use Rattle.model_run.specs.Scoping.{frame_names, names_at}
use Rattle.model_run.specs.Fitting.{EnvFits, Later, holds_executor}
use Rattle.run_laws.specs.Soundness.{Base, Open, setting_of, within, open_in, AskedFits, EndFits, Sits, SoundWorld, Same, Pausing, At, Holds, branching, left, may_declare, seen}
use Rattle.run_laws.specs.Evaluation.{AllOfSite, Grants, InsideFits, IsAnswer, ends_as, has_inner}
use Rattle.run_laws.proofs.Evaluates.{inner_quiet}
use Rattle.run_laws.proofs.Evaluation.{ScriptFacts}
use Rattle.run_laws.proofs.Flow.{HasGone, end_as, later_self, left_later, pausing_here}
use Rattle.run_laws.proofs.InsideForms.{InsidePlain, inside_plain}
use Rattle.run_laws.proofs.Sources.{not_true}
use Rattle.run_laws.proofs.SoundFrames.{frame_goes, node_wait}
use Rattle.cps_frames.specs.Standing.{Standing, state}
use Rattle.cps_frames.specs.Moves.{How, Part, Again, Call, Placed, does, over, Comes}
use Rattle.cps_frames.specs.Places.{AnswersAt, EndsAt, EntersWith}
use Rattle.cps_frames.specs.declared.thread.Move.{Move}
use Rattle.cps_frames.specs.declared.thread.Move.TheVariants.{Ends, Hits, Enter, Asks}
use Rattle.cps_frames.proofs.Keeping.{enter_goes, node_here, part_entered}
use Rattle.cps_frames.proofs.MoveLaws.{Saying}
use Rattle.cps_frames.proofs.Probing.{PartFits, AgainFits, CallFits, part_test, again_test, call_test, probe, probe_sources, over_waits, Told, tells}

not_declared : (b : Bool) → not b ≡ true → b ≡ false
not_declared true e = absurd (cc e)
not_declared false e = refl

-- the build goes on
abbrev pub GoesOn : Move → Type 0
GoesOn (Hits k) = ⊥
GoesOn m = Unit {0}

-- the flow nodes that a move has made: for branches one for each and one for the block
abbrev pub branched : Move → ℕ
branched (Asks asked) = branching asked
branched m = 0

module _ (g : Base) (facts : ScriptFacts g.script) where
  -- what is done next, where a node of form f began
  abbrev pub NextFits : NodeForm → Standing → Move → Type 0
  NextFits f v (Ends e) = EndFits f v.world.shared e
  NextFits f v (Hits k) = Unit {0}
  NextFits f v (Enter e p env) = (p < length (nodes_of g.script)) × EntersWith g.script v.world.shared e p env
  NextFits f v (Asks asked) = AskedFits g.script v.world.shared asked

  pub record Kept (f : NodeForm) (u : Standing) (frames : List Frame) (m : Move) (v : Standing) : Type 0 where
    pub later : Later u.world.shared v.world.shared
    pub sound : SoundWorld (setting_of g) v.world
    pub pausing : Pausing g.around frames v.world
    pub sits : AllAre (Sits g.script v.world.shared) frames
    pub next : NextFits f v m
    pub spent : left g v.world.shared + branched m ≤ left g u.world.shared

  module _ (k : ℕ) (lt : k < length (nodes_of g.script)) (f : NodeForm) (u v : Standing) where
    kept_by : (how : How) (frames : List Frame) (m : Move) → GoesOn m → Placed g.script k how frames m → Holds g f u.world.shared (over (shape_at g.script k) (probe g.script (shape_at g.script k) (names_at g.script k)) frames (does (probe g.script (shape_at g.script k) (names_at g.script k)) how m (state v.world []))) → Kept f u frames m v
    kept_by how [] (Ends e) on p h = record { later = (h.0).later; sound = (h.0).sound; pausing = pausing_here g.around v.world (h.0).same; sits = tt; next = h.1; spent = (let l : left g v.world.shared ≤ left g u.world.shared = left_later g u.world.shared v.world.shared (h.0).later in omega (arith, l)) }
    kept_by how (x ∷ xs) (Ends e) on p h = absurd (cc p)
    kept_by how frames (Hits l) on p h = absurd on
    kept_by how frames (Asks asked) on p h =
        let w = subst (Holds g f u.world.shared) (over_waits (shape_at g.script k) (probe g.script (shape_at g.script k) (names_at g.script k)) frames asked (state v.world [])) h in
        record { later = (w.0).later; sound = (w.0).sound; pausing = (w.0).pausing; sits = w.2; next = w.1; spent = (w.0).spent }
    kept_by (Part i) frames (Enter e p env) on part h =
        let t : Told g facts.shaped k (shape_at g.script k) (names_at g.script k) (node_here g facts k lt) u.world.shared frames (state v.world []) (PartFits (shape_at g.script k) (names_at g.script k) v.world.shared.cells e i env) =
        tells g facts.shaped k (shape_at g.script k) (names_at g.script k) (node_here g facts k lt) f u.world.shared (probe g.script (shape_at g.script k) (names_at g.script k)) frames _ (state v.world []) _ (part_test (shape_at g.script k) (names_at g.script k) v.world.shared.cells e i env) h in
        record { later = (t.paused).later; sound = (t.paused).sound; pausing = (t.paused).pausing; sits = t.sits; spent = (t.paused).spent; next = ((part.0).within, part_entered g facts k i p part.0 v.world.shared e env part.1 t.fits) }
    kept_by Again frames (Enter (Turn i kept) p env) on turn h =
        let t : Told g facts.shaped k (shape_at g.script k) (names_at g.script k) (node_here g facts k lt) u.world.shared frames (state v.world []) (AgainFits (shape_at g.script k) (names_at g.script k) v.world.shared kept env) =
        tells g facts.shaped k (shape_at g.script k) (names_at g.script k) (node_here g facts k lt) f u.world.shared (probe g.script (shape_at g.script k) (names_at g.script k)) frames _ (state v.world []) _ (again_test (shape_at g.script k) (names_at g.script k) v.world.shared kept env) h in
        let fit = t.fits in
        let next : (k < length (nodes_of g.script)) × EntersWith g.script v.world.shared (Turn i kept) k env = (lt, (not_declared _ fit.0, (fit.1).0, (fit.1).1)) in
        record { later = (t.paused).later; sound = (t.paused).sound; pausing = (t.paused).pausing; sits = t.sits; spent = (t.paused).spent; next = subst (λ j. (j < length (nodes_of g.script)) × EntersWith g.script v.world.shared (Turn i kept) j env) (sym turn.0) next }
    kept_by Again frames (Enter e p env) on turn h = absurd turn.1
    kept_by Call frames (Enter (Body args) p env) on body h =
        let t : Told g facts.shaped k (shape_at g.script k) (names_at g.script k) (node_here g facts k lt) u.world.shared frames (state v.world []) (CallFits g.script v.world.shared p args env) =
        tells g facts.shaped k (shape_at g.script k) (names_at g.script k) (node_here g facts k lt) f u.world.shared (probe g.script (shape_at g.script k) (names_at g.script k)) frames _ (state v.world []) _ (call_test g.script v.world.shared p args env) h in
        let fit = t.fits in
        record { later = (t.paused).later; sound = (t.paused).sound; pausing = (t.paused).pausing; sits = t.sits; spent = (t.paused).spent; next = ((fit.0).below, ((fit.0).callable, (fit.0).variables, fit.1)) }
    kept_by Call frames (Enter e p env) on body h = absurd body

    -- What holds of a node that begins nothing but what tells whether it may, its move keeps.
    pub comes_kept : (r : ℕ) (says : Saying) (m : Move) → u.world.setting ≡ setting_of g → GoesOn m → Holds g f u.world.shared (says (shape_at g.script k) (probe g.script (shape_at g.script k) (names_at g.script k)) (state u.world [])) → (c : Comes k r says u m v) → Kept f u c.frames m v
    comes_kept r says m is on h c =
        let same : says (shape_at g.script k) (probe g.script (shape_at g.script k) (names_at g.script k)) (state u.world []) ≡ over (shape_at g.script k) (probe g.script (shape_at g.script k) (names_at g.script k)) c.frames (does (probe g.script (shape_at g.script k) (names_at g.script k)) c.how m (state v.world [])) =
        subst (λ (s : Setting). says (shape_at s.script k) (probe g.script (shape_at g.script k) (names_at g.script k)) (state u.world []) ≡ over (shape_at s.script k) (probe g.script (shape_at g.script k) (names_at g.script k)) c.frames (does (probe g.script (shape_at g.script k) (names_at g.script k)) c.how m (state v.world []))) is (c.same (probe g.script (shape_at g.script k) (names_at g.script k)) []) in
        kept_by c.how c.frames m on (subst (λ (s : Setting). Placed s.script k c.how c.frames m) is c.placed) (subst (Holds g f u.world.shared) same h)

  -- What stood at the spot inside a frame ended as the frame goes on with it.
  pub quiet_part : (k i : ℕ) → may_declare (shape_at g.script k).form i ≡ false → is_declaration (shape_at g.script (part_number g.script k i)).form ≡ false
  quiet_part k i quiet = not_true _ (λ e. let d : may_declare (shape_at g.script k).form i ≡ true = (facts.shaped).declares k i (sym (ap is_declaration (facts.forms k i)) ∙ e) in absurd (cc))

  pub quiet_inner : (k i j : ℕ) → has_inner (form_at (shape_at g.script k).parts i) ≡ true → is_declaration (shape_at g.script (part_number g.script (part_number g.script k i) j)).form ≡ false
  quiet_inner k i j inside = quiet_part (part_number g.script k i) j (inner_quiet (shape_at g.script (part_number g.script k i)).form (ap has_inner (facts.forms k i) ∙ inside) j)

  pub answers_there : (u : Common) (at : Spot) (e : Ending) → AnswersAt u at e → IsAnswer u e
  answers_there u For_branches (Answered (Joined ends)) h = h
  answers_there u at (Answered Begin) h = absurd h
  answers_there u at (Answered (Granted x)) h = tt
  answers_there u at (Answered (Done code out)) h = tt
  answers_there u at (Answered (Decided proceed name)) h = tt
  answers_there u at (Answered (Joined ends)) h = absurd h
  answers_there u at e h = absurd h

  inside_end : (k : ℕ) (w : Within) → InsidePlain (shape_at g.script k) w → (u : Common) (e : Ending) → EndsAt g.script u (spot g.script k w) e → InsideFits (shape_at g.script k) w u e
  inside_end k (Part_within i) plain u e h = subst (λ f. EndFits f u e) (facts.forms k i) h
  inside_end k (Inner i j) plain u e h = end_as g (shape_at g.script (part_number g.script (part_number g.script k i) j)).form form.Block u e (quiet_inner k i j plain) refl h
  inside_end k (Suffix i) plain u e h = end_as g (shape_at g.script (part_number g.script k i)).form form.Block u e (ap is_declaration (facts.forms k i) ∙ plain) refl h
  inside_end k Called plain u e h = h
  inside_end k Own_body plain u e h = h
  inside_end k Executor_wait plain u e h = answers_there u For_executor e h
  inside_end k Task_wait plain u e h = answers_there u For_task e h
  inside_end k Person_wait plain u e h = answers_there u For_person e h
  inside_end k Branches_wait plain u e h = answers_there u For_branches e h

  -- and so inside a frame that fits
  pub inside_fits : (f : Frame) (u : Common) (e : Ending) → Sits g.script u f → EndsAt g.script u (spot_in g.script f) e → InsideFits (shape_at g.script f.node) (row_at g.script f).inside u e
  inside_fits f u e sits =
      inside_end f.node (row_at g.script f).inside (inside_plain g facts.shaped f.node (shape_at g.script f.node) (names_at g.script f.node) (node_here g facts f.node (sits.fits).node) f.kind f.left f.env f.values u (sits.fits).meets) u e

  here : (o : Open) (u : Standing) → SoundWorld (setting_of g) u.world → Same o u.world → At (within o g) u.world.shared (state u.world [])
  here o u sound same = record { later = later_self u.world.shared; sound = sound; alone = refl; same = same }

  -- A frame that fits, behind what stood inside it.
  pub frame_kept : (r : ℕ) (f : Frame) (e : Ending) (u : Standing) (m : Move) (v : Standing) → SoundWorld (setting_of g) u.world → Sits g.script u.world.shared f → EndsAt g.script u.world.shared (spot_in g.script f) e
      → HasGone (holds_executor f.kind) g.around.gone → (f.kind ≡ kind.NodeWait → ⊥) → Same (open_in f.kind g.around) u.world → GoesOn m → (c : Comes f.node r (λ sh a. after f sh a e) u m v) → Kept (shape_at g.script f.node).form u c.frames m v
  frame_kept r f e u m v sound sits ending some never same on c =
      comes_kept f.node (sits.fits).node (shape_at g.script f.node).form u v r (λ sh a. after f sh a e) m sound.setting on
      (frame_goes g facts.real facts.shaped f.node (shape_at g.script f.node) (names_at g.script f.node) (node_here g facts f.node (sits.fits).node) (probe g.script (shape_at g.script f.node) (names_at g.script f.node))
      (probe_sources g facts.shaped f.node (shape_at g.script f.node) (names_at g.script f.node) (node_here g facts f.node (sits.fits).node))
      f.kind some never f.left f.env f.values u.world.shared (sits.fits).meets sits.names e (state u.world []) (here (open_in f.kind g.around) u sound same)
      (inside_fits f u.world.shared e sits ending)) c

  -- So goes the wait for an executor, which the answer grants, or there is none.
  pub wait_kept : (r : ℕ) (f : Frame) (e : Ending) (u : Standing) (m : Move) (v : Standing) → SoundWorld (setting_of g) u.world → Sits g.script u.world.shared f → IsAnswer u.world.shared e → f.kind ≡ kind.NodeWait → Same (record g.around { gone = [] }) u.world
      → Grants u.world.shared.held g.around.gone e → AllOfSite g.site u.world.shared.held → GoesOn m → (c : Comes f.node r (λ sh a. after f sh a e) u m v) → Kept (shape_at g.script f.node).form u c.frames m v
  wait_kept r f e u m v sound sits answer is same grants all on c =
      comes_kept f.node (sits.fits).node (shape_at g.script f.node).form u v r (λ sh a. after f sh a e) m sound.setting on
      (subst (λ d. Holds g (shape_at g.script f.node).form u.world.shared (after_kind (probe g.script (shape_at g.script f.node) (names_at g.script f.node)) f.node (shape_at g.script f.node) f.left f.env f.values d e (state u.world []))) (sym is)
      (node_wait g facts.real facts.shaped f.node (shape_at g.script f.node) (names_at g.script f.node) (node_here g facts f.node (sits.fits).node) (probe g.script (shape_at g.script f.node) (names_at g.script f.node))
      (probe_sources g facts.shaped f.node (shape_at g.script f.node) (names_at g.script f.node) (node_here g facts f.node (sits.fits).node))
      f.left f.env f.values u.world.shared (subst (λ d. MeetsRow (seen u.world.shared) (shape_at g.script f.node) (frame d f.node f.left f.env f.values)) is (sits.fits).meets)
      (subst (λ d. EnvFits u.world.shared.cells (frame_names d (shape_at g.script f.node) f.left (names_at g.script f.node)) f.env) is sits.names) e (state u.world []) (here (record g.around { gone = [] }) u sound same) answer grants all)) c

  -- A node, by how it is entered.
  pub entry_kept : (r : ℕ) (e : Entry) (k : ℕ) (env : Env) (u : Standing) (m : Move) (v : Standing) → (lt : k < length (nodes_of g.script)) → SoundWorld (setting_of g) u.world → EntersWith g.script u.world.shared e k env → Same g.around u.world → GoesOn m
      → (c : Comes k r (λ sh a. enter e a k sh env) u m v) → Kept (ends_as e (shape_at g.script k).form) u c.frames m v
  entry_kept r e k env u m v lt sound fit same on c =
      comes_kept k lt (ends_as e (shape_at g.script k).form) u v r (λ sh a. enter e a k sh env) m sound.setting on
      (enter_goes g facts k lt (probe g.script (shape_at g.script k) (names_at g.script k)) (probe_sources g facts.shaped k (shape_at g.script k) (names_at g.script k) (node_here g facts k lt)) e u.world.shared env fit (state u.world []) (here g.around u sound same)) c
