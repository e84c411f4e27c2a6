-- A thread that is poised stays so: each move leaves frames that fit, one inside the other, and a next move that may be made there.
use Rattle.std.proofs.Common.{◌≡◌, ◌∙◌, ℕ, ◌+◌, ◌-◌, ◌<◌, ◌≤◌, true, false, List, [], ◌∷◌, ◌++◌, length, refl, sym, ap, subst}
use Rattle.std.proofs.lemmas.List.{append-nil}
use Rattle.std.specs.List.{AllByRecursion as AllAre}
use Rattle.model_syntax.specs.declared.node.NodeForm.{NodeForm}
use Rattle.model_syntax.specs.declared.node.NodeForm.TheVariants as form
use Rattle.model_run.specs.declared.ending.Ending.{Ending}
use Rattle.model_run.specs.declared.ending.Ending.TheVariants.{Answered}
use Rattle.model_run.specs.declared.ending.Entry.{Entry}
use Rattle.model_run.specs.declared.ending.Entry.TheVariants.{First, Inside, On, Turn, Body, Branched}
use Rattle.model_run.specs.declared.frame.Frame.{Frame}
use Rattle.model_run.specs.declared.frame.FrameKind.{FrameKind}
use Rattle.model_run.specs.declared.frame.FrameKind.TheVariants as kind
use Rattle.model_run.specs.declared.context.Context.{Context}
use Rattle.model_run.specs.State.{Setting, Common, Env, World}
use Rattle.model_run.specs.Around.{form_at}
use Rattle.model_run.specs.Forms.{enter, after}
use Rattle.model_run.specs.FrameTable.{enters_body, frame_row, is_declaration}
use Rattle.model_run.specs.Nesting.{Spot, Begun, Any_body, Body_of, Any_branch, For_executor, spot, spot_in, shape_at, part_number, row_at, Leads, itself, through_part, through_inner, Enters, own_frame, entered, any_body, body_of, any_branch, Chained, innermost}
use Rattle.model_run.specs.Scoping.{names_at, names_for}
use Rattle.model_run.specs.Terms.{Term, nodes_of}
use Rattle.model_run.specs.Fitting.{Distinct, Later, holds_executor, holds_folder}
use Rattle.model_run.proofs.LaterLaws.{frame_later, env_later}
use Rattle.run_laws.specs.Soundness.{Base, Open, setting_of, in_folder, in_node, open_in, without_all, EndFits, Same, Sits, SoundWorld}
use Rattle.run_laws.specs.Evaluation.{AllOfSite, Grants, IsAnswer, based, ends_as, has_inner}
use Rattle.run_laws.proofs.Evaluates.{inner_quiet}
use Rattle.run_laws.proofs.Evaluation.{ScriptFacts}
use Rattle.run_laws.proofs.Flow.{end_as}
use Rattle.run_laws.proofs.FrameForms.{closure_plain}
use Rattle.run_laws.proofs.InsideForms.{InsidePlain, inside_plain, passes_plain, passes_quiet, inner_plain, inner_inside}
use Rattle.run_laws.proofs.SoundBodies.{called_plain}
use Rattle.cps_frames.specs.Standing.{Standing}
use Rattle.cps_frames.specs.Moves.{How, IsNew, Placed, Comes}
use Rattle.cps_code.specs.Script.{IsScript}
use Rattle.cps_frames.specs.Places.{HasFolders, Holding, IsHeld, granted_by, FrameStands, EndsAt, EntersBy, EntersWith, MayEnter, MayGoOn, MoveFits, Poised}
use Rattle.cps_frames.specs.declared.thread.Move.{Move}
use Rattle.cps_frames.specs.declared.thread.Move.TheVariants.{Ends, Hits, Enter, Asks}
use Rattle.cps_frames.proofs.Bounds.{stands_exactly, sits_loosely}
use Rattle.cps_frames.proofs.Chain.{entry_chain, frame_chain, loosely}
use Rattle.cps_frames.proofs.Fronts.{GoesIn, Plains, StandsAt}
use Rattle.cps_frames.proofs.Holding.{all_split, distinct_front, granted_held, still_held}
use Rattle.cps_frames.proofs.Keeping.{node_here}
use Rattle.cps_frames.proofs.MoveLaws.{Saying}
use Rattle.cps_frames.proofs.Kept.{GoesOn, Kept, NextFits, branched, answers_there, entry_kept, frame_kept, quiet_inner, quiet_part, wait_kept}
use Rattle.cps_frames.proofs.Opened.{Behind, IsAround, all_open, behind, folders_enough, open_here, opened_on, same_here, site_without_all}

-- rows of frames
chained_append : (root : Term) (at : Spot) (fs gs : List Frame) → Chained root at fs → Chained root (innermost root at fs) gs → Chained root at (fs ++ gs)
chained_append root at [] gs a b = b
chained_append root at (f ∷ fs) gs a b = (a.0, chained_append root (spot_in root f) fs gs a.1 b)

innermost_append : (root : Term) (at : Spot) (fs gs : List Frame) → innermost root at (fs ++ gs) ≡ innermost root (innermost root at fs) gs
innermost_append root at [] gs = refl
innermost_append root at (f ∷ fs) gs = innermost_append root (spot_in root f) fs gs

pub chained_split : (root : Term) (at : Spot) (fs gs : List Frame) → Chained root at (fs ++ gs) → Chained root at fs × Chained root (innermost root at fs) gs
chained_split root at [] gs h = (tt, h)
chained_split root at (f ∷ fs) gs h = let rest = chained_split root (spot_in root f) fs gs h.1 in ((h.0, rest.0), rest.1)

all_append : {A : Type 0} (P : A → Type 0) (xs ys : List A) → AllAre P xs → AllAre P ys → AllAre P (xs ++ ys)
all_append P [] ys a b = b
all_append P (x ∷ xs) ys a b = (a.0, all_append P xs ys a.1 b)

stands_later : (root : Term) (u v : Common) → Later u v → (f : Frame) → FrameStands root u f → FrameStands root v f
stands_later root u v l f h = record { fits = frame_later u v l root f h.fits; names = env_later u v l (names_for root f) f.env h.names }

pub all_later : (root : Term) (u v : Common) → Later u v → (fs : List Frame) → AllAre (FrameStands root u) fs → AllAre (FrameStands root v) fs
all_later root u v l [] h = tt
all_later root u v l (f ∷ fs) h = (stands_later root u v l f h.0, all_later root u v l fs h.1)

all_exactly : (root : Term) (u : Common) (k : ℕ) (fs : List Frame) → AllAre (Sits root u) fs → AllAre (IsNew k) fs → AllAre (FrameStands root u) fs
all_exactly root u k [] h n = tt
all_exactly root u k (f ∷ fs) h n = (stands_exactly root u f h.0, all_exactly root u k fs h.1 n.1)

call_plain : (f : NodeForm) → enters_body f ≡ true → is_declaration f ≡ false
call_plain (form.Declare x) e = absurd (cc)
call_plain f e = refl

module _ (g : Base) (facts : ScriptFacts g.script) where
  -- a frame of a row that fits, at node k
  plain_here : (u : Common) (f : Frame) → Sits g.script u f → InsidePlain (shape_at g.script f.node) (row_at g.script f).inside
  plain_here u f sits = inside_plain g facts.shaped f.node (shape_at g.script f.node) (names_at g.script f.node) (node_here g facts f.node (sits.fits).node) f.kind f.left f.env f.values u (sits.fits).meets

  all_plain : (u : Common) (k : ℕ) (fs : List Frame) → AllAre (Sits g.script u) fs → AllAre (IsNew k) fs → Plains g facts k fs
  all_plain u k [] h n = tt
  all_plain u k (f ∷ fs) h n =
      let here : InsidePlain (shape_at g.script f.node) (row_at g.script f).inside = plain_here u f h.0 in
      (subst (λ j. InsidePlain (shape_at g.script j) (frame_row f.kind (shape_at g.script j) f.left f.env).inside) n.0 here, all_plain u k fs h.1 n.1)

  -- a node in the place of another ends as that does
  leads_end : {k j : ℕ} → Leads g.script k j → (u : Common) (e : Ending) → EndFits (shape_at g.script j).form u e → EndFits (shape_at g.script k).form u e
  leads_end itself u e h = h
  leads_end {k} (through_part i pass leads) u e h =
      end_as g (shape_at g.script (part_number g.script k i)).form (shape_at g.script k).form u e (quiet_part g facts k i (passes_quiet (shape_at g.script k).form (form_at (shape_at g.script k).parts i) i pass))
      (passes_plain (shape_at g.script k).form (form_at (shape_at g.script k).parts i) pass) (leads_end leads u e h)
  leads_end {k} (through_inner i pass leads) u e h =
      end_as g (shape_at g.script (part_number g.script (part_number g.script k i) 1)).form (shape_at g.script k).form u e (quiet_inner g facts k i 1 (inner_inside (shape_at g.script k).form (form_at (shape_at g.script k).parts i) pass))
      (inner_plain (shape_at g.script k).form (form_at (shape_at g.script k).parts i) pass) (leads_end leads u e h)

  body_plain : (u : Common) (f : Frame) → Sits g.script u f → f.kind ≡ kind.CallBody → is_declaration (shape_at g.script f.node).form ≡ false
  body_plain u f sits is = called_plain (shape_at g.script f.node).form (ap (λ d. (frame_row d (shape_at g.script f.node) f.left f.env).stands) (sym is) ∙ ((sits.fits).meets).stands)

  branch_plain : (u : Common) (f : Frame) → Sits g.script u f → f.kind ≡ kind.BranchBody → is_declaration (shape_at g.script f.node).form ≡ false
  branch_plain u f sits is = closure_plain (shape_at g.script f.node).form (ap (λ d. (frame_row d (shape_at g.script f.node) f.left f.env).stands) (sym is) ∙ ((sits.fits).meets).stands)

  -- where a frame's node has ended, the spot of the frame has ended so
  frame_end : (u v : Common) (f : Frame) (at : Spot) → Sits g.script u f → Enters g.script f at → (e : Ending) → EndFits (shape_at g.script f.node).form v e → EndsAt g.script v at e
  frame_end u v f (Begun q) sits (own_frame own leads) e h = leads_end leads v e h
  frame_end u v f (Begun q) sits (entered j is leads call) e h = leads_end leads v e (end_as g (shape_at g.script f.node).form (shape_at g.script j).form v e (body_plain u f sits is) (call_plain (shape_at g.script j).form call) h)
  frame_end u v f Any_body sits (any_body is) e h = end_as g (shape_at g.script f.node).form form.Block v e (body_plain u f sits is) refl h
  frame_end u v f (Body_of q) sits (body_of is at) e h = end_as g (shape_at g.script f.node).form form.Block v e (body_plain u f sits is) refl h
  frame_end u v f Any_branch sits (any_branch is) e h = end_as g (shape_at g.script f.node).form form.Block v e (branch_plain u f sits is) refl h
  frame_end u v f at sits w e h = elim w [ ]

  inner_no_declaration : (f : NodeForm) → has_inner f ≡ true → is_declaration f ≡ false
  inner_no_declaration (form.Declare x) e = absurd (cc)
  inner_no_declaration f e = refl

  -- where a node that was entered has ended, the spot where it was entered has ended so
  entry_end : (u v : Common) (e : Entry) (k : ℕ) (env : Env) (at : Spot) → EntersBy g.script at e k → EntersWith g.script u e k env → (x : Ending) → EndFits (ends_as e (shape_at g.script k).form) v x → EndsAt g.script v at x
  entry_end u v First k env (Begun q) by fit x h = leads_end by v x h
  entry_end u v (Turn i kept) k env (Begun q) by fit x h = leads_end by v x h
  entry_end u v (On y) k env (Begun q) by fit x h = leads_end by.0 v x (end_as g form.Block (shape_at g.script k).form v x refl by.1 h)
  entry_end u v (Inside j) k env (Begun q) by fit x h =
      leads_end by v x (end_as g form.Block (shape_at g.script (part_number g.script k j)).form v x refl (quiet_part g facts k j (inner_quiet (shape_at g.script k).form fit.0 j)) h)
  entry_end u v (Body args) k env (Begun q) by fit x h = leads_end by.1 v x (end_as g form.Block (shape_at g.script by.0).form v x refl (call_plain (shape_at g.script by.0).form by.2) h)
  entry_end u v (Body args) k env Any_body by fit x h = h
  entry_end u v (Body args) k env (Body_of q) by fit x h = h
  entry_end u v (Branched start) k env Any_branch by fit x h = h
  entry_end u v First k env at by fit x h = absurd by
  entry_end u v (Turn i kept) k env at by fit x h = absurd by
  entry_end u v (On y) k env at by fit x h = absurd by
  entry_end u v (Inside j) k env at by fit x h = absurd by
  entry_end u v (Body args) k env at by fit x h = absurd by
  entry_end u v (Branched start) k env at by fit x h = absurd by

  -- what is done next fits the spot inside the new frames
  next_fits : (f : NodeForm) (at : Spot) (u : Standing) (k : ℕ) (frames : List Frame) (m : Move) (v : Standing) → (kept : Kept g facts f u frames m v) → ((e : Ending) → EndFits f v.world.shared e → EndsAt g.script v.world.shared at e) → (how : How) → Placed g.script k how frames m → StandsAt g.script (innermost g.script at frames) m → MoveFits g.script v.world.shared (innermost g.script at frames) m
  next_fits f at u k [] (Ends e) v kept ends how p stands = ends e kept.next
  next_fits f at u k (x ∷ xs) (Ends e) v kept ends how p stands = absurd (cc p)
  next_fits f at u k frames (Hits l) v kept ends how p stands = tt
  next_fits f at u k frames (Enter e p env) v kept ends how placed stands = (stands, (kept.next).0, (kept.next).1)
  next_fits f at u k frames (Asks asked) v kept ends how p stands = (stands, kept.next)

  -- where nothing is done next, there are no new frames
  chain_or : (at : Spot) (k : ℕ) (how : How) (frames : List Frame) (m : Move) → GoesOn m → Placed g.script k how frames m → (GoesIn m → Chained g.script at frames × StandsAt g.script (innermost g.script at frames) m) → Chained g.script at frames × StandsAt g.script (innermost g.script at frames) m
  chain_or at k how [] (Ends e) on p h = (tt, tt)
  chain_or at k how (x ∷ xs) (Ends e) on p h = absurd (cc p)
  chain_or at k how frames (Hits l) on p h = absurd on
  chain_or at k how frames (Enter e p env) on placed h = h tt
  chain_or at k how frames (Asks asked) on p h = h tt

  -- a thread with new frames of a node, and its next move
  poised_with : (f : NodeForm) (above : Context) (outer at : Spot) (k : ℕ) (u : Standing) (m : Move) (v : Standing) (r : ℕ) (says : Saying) (c : Comes k r says u m v) → u.world.setting ≡ setting_of g → AllAre (FrameStands g.script u.world.shared) u.stack → Chained g.script outer u.stack → innermost g.script outer u.stack ≡ at
      → IsAround above u.stack g.around → AllOfSite g.site g.around.was → (kept : Kept g facts f u c.frames m v) → ((e : Ending) → EndFits f v.world.shared e → EndsAt g.script v.world.shared at e) → Chained g.script at c.frames × StandsAt g.script (innermost g.script at c.frames) m → Poised (setting_of g) above outer v m
  poised_with f above outer at k u m v r says c is frames chain here opened executors kept ends placed =
      let placed_in : Placed g.script k c.how c.frames m = subst (λ (s : Setting). Placed s.script k c.how c.frames m) is c.placed in
      let all : AllAre (FrameStands g.script v.world.shared) (u.stack ++ c.frames) =
      all_append (FrameStands g.script v.world.shared) u.stack c.frames (all_later g.script u.world.shared v.world.shared kept.later u.stack frames) (all_exactly g.script v.world.shared k c.frames kept.sits c.new) in
      let row : Chained g.script outer (u.stack ++ c.frames) = chained_append g.script outer u.stack c.frames chain (subst (λ x. Chained g.script x c.frames) (sym here) placed.0) in
      let spot_is : innermost g.script outer (u.stack ++ c.frames) ≡ innermost g.script at c.frames = innermost_append g.script outer u.stack c.frames ∙ ap (λ x. innermost g.script x c.frames) here in
      record {
        sound = kept.sound;
        executors = subst (AllOfSite g.site) (sym (kept.pausing).held) (site_without_all g.site (kept.pausing).rest g.around.was executors);
        opened = opened_on above u.stack c.frames g.around v opened c.pushed kept.pausing;
        frames = subst (AllAre (FrameStands g.script v.world.shared)) (sym c.pushed) all;
        chain = subst (Chained g.script outer) (sym c.pushed) row;
        move = subst (λ x. MoveFits g.script v.world.shared x m) (sym (ap (innermost g.script outer) c.pushed ∙ spot_is)) (next_fits f at u k c.frames m v kept ends c.how placed_in placed.1);
      }

  -- behind a frame that was taken off
  frame_poised : (above : Context) (outer : Spot) (r : ℕ) (u : Standing) (f : Frame) (e : Ending) (m : Move) (v : Standing) → u.world.setting ≡ setting_of g → AllAre (FrameStands g.script u.world.shared) u.stack → Chained g.script outer u.stack → Sits g.script u.world.shared f
      → Enters g.script f (innermost g.script outer u.stack) → IsAround above u.stack g.around → AllOfSite g.site g.around.was → GoesOn m → (c : Comes f.node r (λ sh a. after f sh a e) u m v) → Kept g facts (shape_at g.script f.node).form u c.frames m v → Poised (setting_of g) above outer v m
  frame_poised above outer r u f e m v is frames chain sits enters opened executors on c kept =
      poised_with (shape_at g.script f.node).form above outer (innermost g.script outer u.stack) f.node u m v r (λ sh a. after f sh a e) c is frames chain refl opened executors kept
      (λ x h. frame_end u.world.shared v.world.shared f (innermost g.script outer u.stack) sits enters x h)
      (chain_or (innermost g.script outer u.stack) f.node c.how c.frames m on (subst (λ (s : Setting). Placed s.script f.node c.how c.frames m) is c.placed)
      (λ next. frame_chain g facts r f e u v m is (loosely g u.world.shared f sits) c (innermost g.script outer u.stack) enters (all_plain v.world.shared f.node c.frames kept.sits c.new) next))

  -- behind a node that was entered
  entry_poised : (above : Context) (outer : Spot) (r : ℕ) (u : Standing) (e : Entry) (k : ℕ) (env : Env) (m : Move) (v : Standing) → Poised (setting_of g) above outer u (Enter e k env) → Same g.around u.world → IsAround above u.stack g.around → AllOfSite g.site g.around.was → GoesOn m
      → Comes k r (λ sh a. enter e a k sh env) u m v → Poised (setting_of g) above outer v m
  entry_poised above outer r u e k env m v poised same opened executors on c =
      let kept : Kept g facts (ends_as e (shape_at g.script k).form) u c.frames m v = entry_kept g facts r e k env u m v (poised.move).1 poised.sound (poised.move).2 same on c in
      poised_with (ends_as e (shape_at g.script k).form) above outer (innermost g.script outer u.stack) k u m v r (λ sh a. enter e a k sh env) c (poised.sound).setting poised.frames poised.chain refl opened executors kept
      (λ x h. entry_end u.world.shared v.world.shared e k env (innermost g.script outer u.stack) (poised.move).0 (poised.move).2 x h)
      (chain_or (innermost g.script outer u.stack) k c.how c.frames m on (subst (λ (s : Setting). Placed s.script k c.how c.frames m) (poised.sound).setting c.placed)
      (λ next. entry_chain g facts r e k env u v m (poised.sound).setting c (innermost g.script outer u.stack) (poised.move).0 (poised.move).2 (all_plain v.world.shared k c.frames kept.sits c.new) next))

  -- nothing is granted but with an answer
  grants_nothing : (f : NodeForm) (v : Standing) (m : Move) → NextFits g facts f v m → granted_by v.world.shared.held m ≡ []
  grants_nothing f v (Ends (Answered x)) h = absurd h
  grants_nothing f v (Ends e) h = refl
  grants_nothing f v m h = refl

  holding_on : (f : NodeForm) (u : Standing) (frames : List Frame) (m : Move) (v : Standing) → Kept g facts f u frames m v → Distinct (g.around.nodes ++ g.around.gone) → AllAre (IsHeld g.around.was) (g.around.nodes ++ g.around.gone) → Holding v.world m
  holding_on f u frames m v kept differ holds =
      let still = still_held g.around frames v.world kept.pausing differ holds in
      record { holds = still.0; differ = subst Distinct (sym (ap (λ ns. v.world.own.context.held ++ ns) (grants_nothing f v m kept.next) ∙ append-nil v.world.own.context.held)) still.1 }

-- the frame of the wait for an executor, and each other
wait_or : {C : Type 0} (d : FrameKind) → (d ≡ kind.NodeWait → C) → ((d ≡ kind.NodeWait → ⊥) → C) → C
wait_or kind.NodeWait wait other = wait refl
wait_or d wait other = other (λ e. absurd (cc e))

grants : (u : Common) (e : Ending) → IsAnswer u e → Grants u.held (granted_by u.held (Ends e)) e
grants u (Answered x) h = refl
grants u e h = absurd h

module _ (g : Setting) (facts : ScriptFacts g.script) where
  -- A thread whose innermost frame was taken off goes on by it.
  pub record Taken (above : Context) (at : Spot) (u : Standing) (f : Frame) (e : Ending) : Type 0 where
    pub sound : SoundWorld g u.world
    pub executors : AllOfSite g.site u.world.shared.held
    pub behind : Behind above u.stack (holds_executor f.kind) (holds_folder f.kind) u.world
    pub enough : HasFolders above → HasFolders u.world.own.context
    pub frames : AllAre (FrameStands g.script u.world.shared) u.stack
    pub chain : Chained g.script at u.stack
    pub frame : FrameStands g.script u.world.shared f
    pub enters : Enters g.script f (innermost g.script at u.stack)
    pub ending : EndsAt g.script u.world.shared (spot_in g.script f) e

  -- behind a frame that is not the wait for an executor
  other_kept : (above : Context) (outer : Spot) (r : ℕ) (u : Standing) (f : Frame) (e : Ending) (m : Move) (v : Standing) → (taken : Taken above outer u f e) → GoesOn m → (c : Comes f.node r (λ sh a. after f sh a e) u m v) → (f.kind ≡ kind.NodeWait → ⊥)
      → Kept (based g (taken.behind).around) facts (shape_at g.script f.node).form u c.frames m v
  other_kept above outer r u f e m v taken on c other =
      frame_kept (based g (taken.behind).around) facts r f e u m v taken.sound (sits_loosely g.script u.world.shared f taken.frame) taken.ending (taken.behind).some other (taken.behind).same on c

  other_keeps : (above : Context) (outer : Spot) (r : ℕ) (u : Standing) (f : Frame) (e : Ending) (m : Move) (v : Standing) → Taken above outer u f e → GoesOn m → Comes f.node r (λ sh a. after f sh a e) u m v → (f.kind ≡ kind.NodeWait → ⊥) → Poised g above outer v m
  other_keeps above outer r u f e m v taken on c other =
      frame_poised (based g (taken.behind).around) facts above outer r u f e m v (taken.sound).setting taken.frames taken.chain (sits_loosely g.script u.world.shared f taken.frame) taken.enters (taken.behind).is
      (subst (AllOfSite g.site) (sym (taken.behind).was) taken.executors) on c (other_kept above outer r u f e m v taken on c other)

  other_holds : (above : Context) (outer : Spot) (r : ℕ) (u : Standing) (f : Frame) (e : Ending) (m : Move) (v : Standing) → Taken above outer u f e → Holding u.world (Ends e) → GoesOn m → Comes f.node r (λ sh a. after f sh a e) u m v → (f.kind ≡ kind.NodeWait → ⊥) → Holding v.world m
  other_holds above outer r u f e m v taken h on c other =
      holding_on (based g (taken.behind).around) facts (shape_at g.script f.node).form u c.frames m v (other_kept above outer r u f e m v taken on c other)
      (subst Distinct (sym (taken.behind).all) (distinct_front u.world.own.context.held (granted_by u.world.shared.held (Ends e)) h.differ))
      (subst (AllAre (IsHeld (taken.behind).around.was)) (sym (taken.behind).all) (subst (λ x. AllAre (IsHeld x) u.world.own.context.held) (sym (taken.behind).was) h.holds))

  -- what the spot of a wait for an executor is
  executor_spot : (f : Frame) → f.kind ≡ kind.NodeWait → spot_in g.script f ≡ For_executor
  executor_spot f is = ap (λ d. spot g.script f.node (frame_row d (shape_at g.script f.node) f.left f.env).inside) is

  -- behind that wait, which opens a body where an executor is granted
  module _ (above : Context) (outer : Spot) (r : ℕ) (u : Standing) (f : Frame) (e : Ending) (m : Move) (v : Standing) (taken : Taken above outer u f e) (on : GoesOn m) (c : Comes f.node r (λ sh a. after f sh a e) u m v) (is : f.kind ≡ kind.NodeWait) where
    abbrev granting : Open
    granting = record (taken.behind).around { gone = granted_by u.world.shared.held (Ends e) }

    closed : Same (taken.behind).around u.world
    closed =
        let same : Same (in_folder (holds_folder f.kind) (in_node (holds_executor f.kind) (taken.behind).around)) u.world = (taken.behind).same in
        subst (λ d. Same (open_in d (taken.behind).around) u.world) is same

    granted_kept : Kept (based g granting) facts (shape_at g.script f.node).form u c.frames m v
    granted_kept =
        let answer : IsAnswer u.world.shared e = answers_there (based g granting) facts u.world.shared For_executor e (subst (λ x. EndsAt g.script u.world.shared x e) (executor_spot f is) taken.ending) in
        let none : (taken.behind).around.gone ≡ [] = (taken.behind).none (ap holds_executor is) in
        let unopened : Same (record (taken.behind).around { gone = [] }) u.world = record { nodes = closed.nodes; folders = closed.folders; held = closed.held ∙ ap (λ ns. without_all ns (taken.behind).around.was) none } in
        wait_kept (based g granting) facts r f e u m v taken.sound (sits_loosely g.script u.world.shared f taken.frame) answer is unopened (grants u.world.shared e answer) taken.executors on c

    wait_keeps : Poised g above outer v m
    wait_keeps =
        let opened : IsAround above u.stack granting = record { own = ((taken.behind).is).own; nodes = ((taken.behind).is).nodes; many = ((taken.behind).is).many; folders = ((taken.behind).is).folders } in
        frame_poised (based g granting) facts above outer r u f e m v (taken.sound).setting taken.frames taken.chain (sits_loosely g.script u.world.shared f taken.frame) taken.enters opened
        (subst (AllOfSite g.site) (sym (taken.behind).was) taken.executors) on c granted_kept

    wait_holds : Holding u.world (Ends e) → Holding v.world m
    wait_holds h =
        let all : AllAre (IsHeld u.world.shared.held) (u.world.own.context.held ++ granted_by u.world.shared.held (Ends e)) = all_append (IsHeld u.world.shared.held) u.world.own.context.held (granted_by u.world.shared.held (Ends e)) h.holds (granted_held u.world.shared.held e) in
        holding_on (based g granting) facts (shape_at g.script f.node).form u c.frames m v granted_kept
        (subst (λ ns. Distinct (ns ++ granted_by u.world.shared.held (Ends e))) closed.nodes h.differ)
        (subst (λ ns. AllAre (IsHeld (taken.behind).around.was) (ns ++ granted_by u.world.shared.held (Ends e))) closed.nodes
        (subst (λ x. AllAre (IsHeld x) (u.world.own.context.held ++ granted_by u.world.shared.held (Ends e))) (sym (taken.behind).was) all))

  -- Behind a frame that was taken off, the thread is poised again.
  pub ends_keep : (above : Context) (outer : Spot) (r : ℕ) (u : Standing) (f : Frame) (e : Ending) (m : Move) (v : Standing) → Taken above outer u f e → GoesOn m → Comes f.node r (λ sh a. after f sh a e) u m v → Poised g above outer v m
  ends_keep above outer r u f e m v taken on c = wait_or f.kind (wait_keeps above outer r u f e m v taken on c) (other_keeps above outer r u f e m v taken on c)

  -- Behind a node that was entered, it is so too.
  pub enters_keep : (above : Context) (outer : Spot) (r : ℕ) (u : Standing) (e : Entry) (k : ℕ) (env : Env) (m : Move) (v : Standing) → Poised g above outer u (Enter e k env) → GoesOn m → Comes k r (λ sh a. enter e a k sh env) u m v → Poised g above outer v m
  enters_keep above outer r u e k env m v poised on c = entry_poised (based g (open_here u.world)) facts above outer r u e k env m v poised (same_here u.world) (all_open above u poised.opened) poised.executors on c

  -- And where the executors of its context are held, those of its context are so still.
  pub ends_hold : (above : Context) (outer : Spot) (r : ℕ) (u : Standing) (f : Frame) (e : Ending) (m : Move) (v : Standing) → Taken above outer u f e → Holding u.world (Ends e) → GoesOn m → Comes f.node r (λ sh a. after f sh a e) u m v → Holding v.world m
  ends_hold above outer r u f e m v taken h on c = wait_or f.kind (λ is. wait_holds above outer r u f e m v taken on c is h) (other_holds above outer r u f e m v taken h on c)

  pub enters_hold : (above : Context) (outer : Spot) (r : ℕ) (u : Standing) (e : Entry) (k : ℕ) (env : Env) (m : Move) (v : Standing) → Poised g above outer u (Enter e k env) → Holding u.world (Enter e k env) → GoesOn m → Comes k r (λ sh a. enter e a k sh env) u m v → Holding v.world m
  enters_hold above outer r u e k env m v poised h on c =
      holding_on (based g (open_here u.world)) facts (ends_as e (shape_at g.script k).form) u c.frames m v
      (entry_kept (based g (open_here u.world)) facts r e k env u m v (poised.move).1 poised.sound (poised.move).2 (same_here u.world) on c) h.differ
      (subst (AllAre (IsHeld u.world.shared.held)) (sym (append-nil u.world.own.context.held)) h.holds)

  -- Flow nodes are made for branches that begin.
  pub ends_spend : (above : Context) (outer : Spot) (r : ℕ) (u : Standing) (f : Frame) (e : Ending) (m : Move) (v : Standing) → Taken above outer u f e → GoesOn m → Comes f.node r (λ sh a. after f sh a e) u m v
      → (g.limits.flow_nodes - length v.world.shared.nodes) + branched m ≤ g.limits.flow_nodes - length u.world.shared.nodes
  ends_spend above outer r u f e m v taken on c = wait_or f.kind (λ is. (granted_kept above outer r u f e m v taken on c is).spent) (λ other. (other_kept above outer r u f e m v taken on c other).spent)

  pub enters_spend : (above : Context) (outer : Spot) (r : ℕ) (u : Standing) (e : Entry) (k : ℕ) (env : Env) (m : Move) (v : Standing) → Poised g above outer u (Enter e k env) → GoesOn m → Comes k r (λ sh a. enter e a k sh env) u m v
      → (g.limits.flow_nodes - length v.world.shared.nodes) + branched m ≤ g.limits.flow_nodes - length u.world.shared.nodes
  enters_spend above outer r u e k env m v poised on c = (entry_kept (based g (open_here u.world)) facts r e k env u m v (poised.move).1 poised.sound (poised.move).2 (same_here u.world) on c).spent

  -- the innermost frame of a poised thread is taken off
  pub taken_off : (above : Context) (outer : Spot) (u u' : Standing) (f : Frame) (e : Ending) → Poised g above outer u (Ends e) → u'.world ≡ u.world → u.stack ≡ u'.stack ++ f ∷ [] → Taken above outer u' f e
  taken_off above outer u u' f e poised world at =
      let frames = all_split (FrameStands g.script u.world.shared) u'.stack (f ∷ []) (subst (AllAre (FrameStands g.script u.world.shared)) at poised.frames) in
      let chain = chained_split g.script outer u'.stack (f ∷ []) (subst (Chained g.script outer) at poised.chain) in
      let inner : innermost g.script outer u.stack ≡ spot_in g.script f = ap (innermost g.script outer) at ∙ innermost_append g.script outer u'.stack (f ∷ []) in
      record {
        sound = subst (SoundWorld g) (sym world) poised.sound;
        executors = subst (λ (w : World). AllOfSite g.site w.shared.held) (sym world) poised.executors;
        behind = behind above u u' f poised.opened world at;
        enough = λ enough. subst (λ (w : World). HasFolders w.own.context) (sym world) (folders_enough above u enough poised.opened);
        frames = subst (λ w. AllAre (FrameStands g.script w.shared) u'.stack) (sym world) frames.0;
        chain = chain.0;
        frame = subst (λ w. FrameStands g.script w.shared f) (sym world) (frames.1).0;
        enters = (chain.1).0;
        ending = subst (λ w. EndsAt g.script w.shared (spot_in g.script f) e) (sym world) (subst (λ x. EndsAt g.script u.world.shared x e) inner poised.move);
      }

  -- So the frame may go on, and the node be entered.
  pub may_go_on : (above : Context) (outer : Spot) (u : Standing) (f : Frame) (e : Ending) → IsScript u.world.setting.script → u.world.setting ≡ g → Taken above outer u f e → Holding u.world (Ends e) → HasFolders above → MayGoOn u f e
  may_go_on above outer u f e script is taken held enough = record {
    script = script;
    sound = subst (λ (s : Setting). SoundWorld s u.world) (sym is) taken.sound;
    frame = subst (λ (s : Setting). FrameStands s.script u.world.shared f) (sym is) taken.frame;
    ending = subst (λ (s : Setting). EndsAt s.script u.world.shared (spot_in s.script f) e) (sym is) taken.ending;
    executors = subst (λ (s : Setting). AllOfSite s.site u.world.shared.held) (sym is) taken.executors;
    holds = held.holds;
    executor = (taken.behind).executor;
    folder = (taken.behind).folder;
    enough = taken.enough enough;
  }

  pub may_enter : (above : Context) (outer : Spot) (u : Standing) (e : Entry) (k : ℕ) (env : Env) → IsScript u.world.setting.script → u.world.setting ≡ g → Poised g above outer u (Enter e k env) → Holding u.world (Enter e k env) → HasFolders above → MayEnter u e k env
  may_enter above outer u e k env script is poised held enough = record {
    script = script;
    sound = subst (λ (s : Setting). SoundWorld s u.world) (sym is) poised.sound;
    node = subst (λ (s : Setting). k < length (nodes_of s.script)) (sym is) (poised.move).1;
    entry = subst (λ (s : Setting). EntersWith s.script u.world.shared e k env) (sym is) (poised.move).2;
    executors = subst (λ (s : Setting). AllOfSite s.site u.world.shared.held) (sym is) poised.executors;
    holds = held.holds;
    enough = folders_enough above u enough poised.opened;
  }
