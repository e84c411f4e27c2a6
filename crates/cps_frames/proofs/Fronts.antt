-- The frames that a move puts up stand one inside the other from where its node stood, and what is done next may stand inside them.
use Rattle.std.proofs.Common.{◌≡◌, ◌∙◌, ℕ, zero, suc, true, List, [], ◌∷◌, refl, sym, ap, subst}
use Rattle.std.specs.List.{AllByRecursion as AllAre}
use Rattle.model_syntax.specs.declared.node.NodeForm.{NodeForm}
use Rattle.model_syntax.specs.declared.node.NodeForm.TheVariants as form
use Rattle.model_run.specs.declared.ending.Asked.{Asked}
use Rattle.model_run.specs.declared.ending.Asked.TheVariants.{ForRequest, ForBranches}
use Rattle.model_run.specs.declared.ending.Entry.{Entry}
use Rattle.model_run.specs.declared.ending.Entry.TheVariants.{First, Inside, On, Turn, Body, Branched}
use Rattle.model_run.specs.declared.frame.Frame.{Frame}
use Rattle.model_run.specs.declared.frame.FrameKind.{FrameKind}
use Rattle.model_run.specs.declared.frame.FrameKind.TheVariants as kind
use Rattle.model_run.specs.State.{Waits}
use Rattle.model_run.specs.Around.{Shape, form_at}
use Rattle.model_run.specs.FrameTable.{Within, Part as Part_within, Inner, Executor_wait, Task_wait, Person_wait, Branches_wait, WaitsAt, row_of, within, passes, passes_part, passes_inner, enters_body, is_callable, is_declaration}
use Rattle.model_run.specs.Nesting.{Spot, Begun, is_own, spot, spot_in, shape_at, part_number, Leads, itself, through_part, through_inner, Enters, own_frame, Chained, WaitsFor, innermost}
use Rattle.model_run.specs.Terms.{Term}
use Rattle.run_laws.specs.Soundness.{Base}
use Rattle.run_laws.proofs.Evaluation.{ScriptFacts}
use Rattle.run_laws.proofs.InsideForms.{InsidePlain}
use Rattle.cps_frames.specs.Standing.{state}
use Rattle.cps_frames.specs.Moves.{How, Part, Again, Call, IsPart, IsOfPart, IsNew, Placed, does, over}
use Rattle.cps_frames.specs.Places.{EntersBy}
use Rattle.cps_frames.specs.declared.thread.Move.{Move}
use Rattle.cps_frames.specs.declared.thread.Move.TheVariants.{Ends, Hits, Enter, Asks}
use Rattle.cps_frames.proofs.Keeping.{number_there, part_form_is}
use Rattle.cps_frames.proofs.Marking.{Mark, Of_part, Of_turn, Of_call, Of_none, marking, marked, same_self, Fronted, Shows, WaitIn}
use Rattle.cps_frames.proofs.Probing.{over_waits}

-- what is marked to see a move
abbrev pub mark_entry : How → Entry → Mark
mark_entry (Part i) e = Of_part (within e i)
mark_entry Again e = Of_turn
mark_entry Call e = Of_call

abbrev pub mark_of : How → Move → Mark
mark_of how (Ends e) = Of_none
mark_of how (Hits l) = Of_none
mark_of how (Enter e p env) = mark_entry how e
mark_of how (Asks asked) = Of_none

-- what the marked move waits for
abbrev pub asked_of : Move → Asked
asked_of (Asks asked) = asked
asked_of m = ForBranches []

-- what is done next may stand at a spot
abbrev pub StandsAt : Term → Spot → Move → Type 0
StandsAt root at (Enter e p env) = EntersBy root at e p
StandsAt root at (Asks asked) = WaitsFor at asked
StandsAt root at m = Unit {0}

-- something is done next
abbrev pub GoesIn : Move → Type 0
GoesIn (Enter e p env) = Unit {0}
GoesIn (Asks asked) = Unit {0}
GoesIn m = ⊥

waits_there : (root : Term) (k : ℕ) (w : Within) (asked : Asked) → WaitsAt w asked → WaitsFor (spot root k w) asked
waits_there root k Executor_wait (ForRequest n) h = h
waits_there root k Executor_wait (ForBranches bs) h = h
waits_there root k Task_wait (ForRequest n) h = h
waits_there root k Task_wait (ForBranches bs) h = h
waits_there root k Person_wait (ForRequest n) h = h
waits_there root k Person_wait (ForBranches bs) h = h
waits_there root k Branches_wait (ForRequest n) h = h
waits_there root k Branches_wait (ForBranches bs) h = h
waits_there root k w asked h = absurd h

pub leads_on : {root : Term} {j k l : ℕ} → Leads root j k → Leads root k l → Leads root j l
leads_on itself b = b
leads_on (through_part i pass a) b = through_part i pass (leads_on a b)
leads_on (through_inner i pass a) b = through_inner i pass (leads_on a b)

-- a marked move waits where it is marked
pub does_wait : (root : Term) (k : ℕ) (how : How) (fs : List Frame) (m : Move) (w : _) → GoesIn m → Placed root k how fs m → does (marked (mark_of how m)) how m (state w []) ≡ Waits (asked_of m) [] (state w [])
does_wait root k how fs (Ends e) w on p = absurd on
does_wait root k how fs (Hits l) w on p = absurd on
does_wait root k how fs (Asks asked) w on p = refl
does_wait root k (Part i) fs (Enter e p env) w on part = ap (λ b. marking b (state w [])) (same_self e part.1 i)
does_wait root k Again fs (Enter (Turn i kept) p env) w on turn = refl
does_wait root k Again fs (Enter e p env) w on turn = absurd turn.1
does_wait root k Call fs (Enter (Body args) p env) w on body = refl
does_wait root k Call fs (Enter e p env) w on body = absurd body

pub shown : (K : FrameKind → Type 0) (T : Type 0) (root : Term) (k : ℕ) (sh : Shape) (how : How) (fs : List Frame) (m : Move) (w : _) → GoesIn m → Placed root k how fs m → Shows K T (mark_of how m) sh (over sh (marked (mark_of how m)) fs (does (marked (mark_of how m)) how m (state w []))) → Fronted K T (mark_of how m) sh fs (asked_of m)
shown K T root k sh how fs m w on p h =
    subst (Shows K T (mark_of how m) sh)
    (ap (over sh (marked (mark_of how m)) fs) (does_wait root k how fs m w on p) ∙ over_waits sh (marked (mark_of how m)) fs (asked_of m) (state w [])) h

-- a closure and a function pass nothing on, and call nothing as they begin
no_body : (f : NodeForm) → is_callable f ≡ true → enters_body f ≡ true → ⊥
no_body (form.Closure heads) c e = absurd (cc e)
no_body (form.Function x names) c e = absurd (cc e)
no_body f c e = absurd (cc c)

none_passed : (f p : NodeForm) → is_callable f ≡ true → passes_part f p ≡ true → ⊥
none_passed (form.Closure heads) p c e = absurd (cc e)
none_passed (form.Function x names) p c e = absurd (cc e)
none_passed f p c e = absurd (cc c)

none_inside : (f p : NodeForm) → is_callable f ≡ true → passes_inner f p ≡ true → ⊥
none_inside (form.Closure heads) p c e = absurd (cc e)
none_inside (form.Function x names) p c e = absurd (cc e)
none_inside f p c e = absurd (cc c)

no_passes : (sh : Shape) → is_callable sh.form ≡ true → (w : Within) → passes sh w ≡ true → ⊥
no_passes sh c (Part_within i) e = none_passed sh.form (form_at sh.parts i) c e
no_passes sh c (Inner i (suc zero)) e = none_inside sh.form (form_at sh.parts i) c e
no_passes sh c w e = absurd (cc e)

abbrev pub Own : FrameKind → Type 0
Own d = is_own d ≡ true

module _ (g : Base) (facts : ScriptFacts g.script) where
  -- a new frame and what stands inside it
  pub inside_at : (k : ℕ) (f : Frame) (w : Within) → f.node ≡ k → (row_of (shape_at g.script k) f).inside ≡ w → spot_in g.script f ≡ spot g.script k w
  inside_at k f w at is = ap (λ j. spot g.script j (row_of (shape_at g.script j) f).inside) at ∙ ap (spot g.script k) is

  -- node k in the place of node q, and what it passes on
  passed_on : (q k i p : ℕ) (e : Entry) → Leads g.script q k → IsPart g.script k i p → passes (shape_at g.script k) (within e i) ≡ true → EntersBy g.script (Begun q) e p
  passed_on q k i p First leads part pass = subst (Leads g.script q) (number_there g facts k i p part) (leads_on leads (through_part i pass itself))
  passed_on q k i p (Inside (suc zero)) leads part pass = subst (λ n. Leads g.script q (part_number g.script n 1)) (number_there g facts k i p part) (leads_on leads (through_inner i pass itself))
  passed_on q k i p e leads part pass = absurd (cc pass)

  -- a part under a frame of the node
  part_under : (k i p : ℕ) (e : Entry) → IsOfPart e → IsPart g.script k i p → InsidePlain (shape_at g.script k) (within e i) → EntersBy g.script (spot g.script k (within e i)) e p
  part_under k i p First of part plain = subst (λ n. Leads g.script (part_number g.script k i) n) (number_there g facts k i p part) itself
  part_under k i p (Inside j) of part plain = subst (λ n. Leads g.script (part_number g.script (part_number g.script k i) j) (part_number g.script n j)) (number_there g facts k i p part) itself
  part_under k i p (On v) of part plain = (subst (λ n. Leads g.script (part_number g.script k i) n) (number_there g facts k i p part) itself, ap is_declaration (part_form_is g facts k i p part) ∙ plain)
  part_under k i p (Turn j kept) of part plain = absurd of
  part_under k i p (Body args) of part plain = absurd of
  part_under k i p (Branched start) of part plain = absurd of

  -- inside one new frame
  one_front : (k : ℕ) (f : Frame) (fs : List Frame) (how : How) (m : Move) → f.node ≡ k → InsidePlain (shape_at g.script k) (row_of (shape_at g.script k) f).inside → GoesIn m → Placed g.script k how fs m → WaitIn (mark_of how m) (row_of (shape_at g.script k) f).inside (asked_of m) → StandsAt g.script (spot_in g.script f) m
  one_front k f fs how (Ends e) at plain on p h = absurd on
  one_front k f fs how (Hits l) at plain on p h = absurd on
  one_front k f fs how (Asks (ForRequest n)) at plain on p h = subst (λ x. WaitsFor x (ForRequest n)) (sym (inside_at k f _ at refl)) (waits_there g.script k (row_of (shape_at g.script k) f).inside (ForRequest n) h)
  one_front k f fs how (Asks (ForBranches [])) at plain on p h = absurd h
  one_front k f fs how (Asks (ForBranches (b ∷ bs))) at plain on p h = subst (λ x. WaitsFor x (ForBranches (b ∷ bs))) (sym (inside_at k f _ at refl)) (waits_there g.script k (row_of (shape_at g.script k) f).inside (ForBranches (b ∷ bs)) h)
  one_front k f fs (Part i) (Enter e p env) at plain on part h = subst (λ x. EntersBy g.script x e p) (sym (inside_at k f _ at h)) (part_under k i p e part.1 part.0 (subst (InsidePlain (shape_at g.script k)) h plain))
  one_front k f fs Again (Enter e p env) at plain on turn h = absurd h
  one_front k f fs Call (Enter (Body args) p env) at plain on body h = subst (λ x. EntersBy g.script x (Body args) p) (sym (inside_at k f _ at h)) tt
  one_front k f fs Call (Enter e p env) at plain on body h = absurd body

  abbrev pub Plains : ℕ → List Frame → Type 0
  Plains k fs = AllAre (λ f. InsidePlain (shape_at g.script k) (row_of (shape_at g.script k) f).inside) fs

  -- The frames of a node that stands in the place of node q.
  pub own_front : (q k : ℕ) → Leads g.script q k → (how : How) (fs : List Frame) (m : Move) → AllAre (IsNew k) fs → Plains k fs → GoesIn m → Placed g.script k how fs m → Fronted Own (Unit {0}) (mark_of how m) (shape_at g.script k) fs (asked_of m)
      → Chained g.script (Begun q) fs × StandsAt g.script (innermost g.script (Begun q) fs) m
  own_front q k leads how (f ∷ []) m new plain on p h = ((own_frame h.0 (subst (λ j. Leads g.script q j) (sym new.0) leads), tt), one_front k f (f ∷ []) how m new.0 plain.0 on p h.1)
  own_front q k leads how (f ∷ x ∷ xs) m new plain on p h = absurd h
  own_front q k leads how [] (Ends e) new plain on p h = absurd on
  own_front q k leads how [] (Hits l) new plain on p h = absurd on
  own_front q k leads how [] (Asks (ForRequest n)) new plain on p h = absurd h
  own_front q k leads how [] (Asks (ForBranches [])) new plain on p h = absurd h
  own_front q k leads how [] (Asks (ForBranches (b ∷ bs))) new plain on p h = absurd h
  own_front q k leads (Part i) [] (Enter e p env) new plain on part h = (tt, passed_on q k i p e leads part.0 h)
  own_front q k leads Again [] (Enter (Turn i kept) p env) new plain on turn h = (tt, subst (λ j. Leads g.script q j) (sym turn.0) leads)
  own_front q k leads Again [] (Enter e p env) new plain on turn h = absurd turn.1
  own_front q k leads Call [] (Enter (Body args) p env) new plain on body h = (tt, (k, leads, h))
  own_front q k leads Call [] (Enter e p env) new plain on body h = absurd body

  -- the frame of a body that is entered, where it may stand
  pub body_front : (at : Spot) (k : ℕ) → ((f : Frame) → f.kind ≡ kind.CallBody → f.node ≡ k → Enters g.script f at) → is_callable (shape_at g.script k).form ≡ true
      → (how : How) (fs all : List Frame) (m : Move) → AllAre (IsNew k) fs → Plains k fs → GoesIn m → Placed g.script k how all m → Fronted (λ d. d ≡ kind.CallBody) ⊥ (mark_of how m) (shape_at g.script k) fs (asked_of m)
      → Chained g.script at fs × StandsAt g.script (innermost g.script at fs) m
  body_front at k up call how (f ∷ []) all m new plain on p h = ((up f h.0 new.0, tt), one_front k f all how m new.0 plain.0 on p h.1)
  body_front at k up call how (f ∷ x ∷ xs) all m new plain on p h = absurd h
  body_front at k up call how [] all (Ends e) new plain on p h = absurd on
  body_front at k up call how [] all (Hits l) new plain on p h = absurd on
  body_front at k up call how [] all (Asks (ForRequest n)) new plain on p h = absurd h
  body_front at k up call how [] all (Asks (ForBranches [])) new plain on p h = absurd h
  body_front at k up call how [] all (Asks (ForBranches (b ∷ bs))) new plain on p h = absurd h
  body_front at k up call (Part i) [] all (Enter e p env) new plain on part h = absurd (no_passes (shape_at g.script k) call (within e i) h)
  body_front at k up call Again [] all (Enter e p env) new plain on turn h = absurd h
  body_front at k up call Call [] all (Enter e p env) new plain on body h = absurd (no_body (shape_at g.script k).form call h)
