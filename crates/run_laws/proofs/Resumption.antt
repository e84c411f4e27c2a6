-- Going on from frames that fit: from a sound state, with what stood inside the last of them, to a later sound state.
use Rattle.std.proofs.Common.{arith, ◌≡◌, ◌+◌, refl, sym, ap, subst, ◌∙◌, ℕ, Bool, true, false, List, [], ◌∷◌, ◌++◌, length, append_assoc}
use Rattle.std.proofs.lemmas.List.{append-nil}
use Rattle.std.specs.Prelude.{if◌then◌else◌}
use Rattle.std.specs.List.{AllByRecursion as AllAre}
use Rattle.model_syntax.specs.declared.node.NodeForm.{NodeForm}
use Rattle.model_syntax.specs.declared.node.NodeForm.TheVariants as form
use Rattle.model_run.specs.declared.frame.Frame.{Frame}
use Rattle.model_run.specs.declared.frame.FrameKind.TheVariants as kind
use Rattle.model_run.specs.declared.ending.Ending.{Ending}
use Rattle.model_run.specs.State.{Common, State, Result, Ended, through}
use Rattle.model_run.specs.Around.{form_at}
use Rattle.model_run.specs.Fitting.{holds_executor, holds_folder}
use Rattle.model_run.specs.Meaning.{continue, unwind}
use Rattle.model_run.specs.FrameTable.{Within, Part, Inner, Suffix, Called, Own_body, Executor_wait, Task_wait, Person_wait, Branches_wait, frame_row, enters_body, is_declaration}
use Rattle.model_run.specs.Nesting.{Spot, Begun, Any_body, Body_of, Any_branch, For_executor, For_task, For_person, For_branches, spot, spot_in, Leads, itself, through_part, through_inner, Enters, own_frame, entered, any_body, body_of, any_branch, Chained, innermost, shape_at, row_at, part_number}
use Rattle.run_laws.specs.Soundness.{Base, Open, within, in_folder, next_node_in, in_node, open_in, inside, open_nodes, open_folders, may_declare, Sits, EndFits, At, Holds}
use Rattle.run_laws.specs.Evaluation.{has_inner, IsAnswer, InsideFits, Grants, AllOfSite, unopened, IsAnswered, IsGranted, HoldsAt}
use Rattle.run_laws.proofs.Flow.{HasGone, one_more, end_as, holds_as, through_inside}
use Rattle.run_laws.proofs.Sources.{not_true}
use Rattle.run_laws.proofs.Evaluates.{inner_quiet}
use Rattle.run_laws.proofs.FrameForms.{closure_plain, executor_waits}
use Rattle.run_laws.proofs.InsideForms.{InsidePlain, inside_plain, passes_plain, passes_quiet, inner_plain, inner_inside}
use Rattle.run_laws.proofs.SoundBodies.{called_plain}
use Rattle.run_laws.proofs.Evaluation.{ScriptFacts, place_at, continue_goes, grant_goes}

call_plain : (f : NodeForm) → enters_body f ≡ true → is_declaration f ≡ false
call_plain (form.Declare x) e = absurd (cc)
call_plain f e = refl

module _ (g : Base) (facts : ScriptFacts g.script) where
  -- the form of the node with this number
  abbrev form_of_node : ℕ → NodeForm
  form_of_node k = (shape_at g.script k).form

  -- a part that may not declare does not
  quiet_part : (k i : ℕ) → may_declare (form_of_node k) i ≡ false → is_declaration (form_of_node (part_number g.script k i)) ≡ false
  quiet_part k i quiet = not_true _ (λ e. let d : may_declare (form_of_node k) i ≡ true = (facts.shaped).declares k i (sym (ap is_declaration (facts.forms k i)) ∙ e) in absurd (cc))

  -- a part of a part
  quiet_inner : (k i j : ℕ) → has_inner (form_at (shape_at g.script k).parts i) ≡ true → is_declaration (form_of_node (part_number g.script (part_number g.script k i) j)) ≡ false
  quiet_inner k i j inside = quiet_part (part_number g.script k i) j (inner_quiet (form_of_node (part_number g.script k i)) (ap has_inner (facts.forms k i) ∙ inside) j)

  -- behind a wait
  through_answered : (f : NodeForm) (u : Common) (x : Frame) (go : Ending → State → Result) → ((e : Ending) (s : State) → At (inside x.kind g) u s → IsAnswer s.world.shared e → Holds g f u (go e s)) → (r : Result) → IsAnswered (inside x.kind g) u r → Holds g f u (through x go r)
  unfolding through
  through_answered f u x go ok (Ended e s) h = ok e s h.0 h.1
  through_answered f u x go ok r h = absurd h

  -- behind the wait for an executor
  abbrev GoesGranted : NodeForm → Common → Frame → (Ending → State → Result) → Type 0
  GoesGranted f u x go = (e : Ending) (s : State) → At (unopened (inside x.kind g)) u s → IsAnswer s.world.shared e → Grants s.world.shared.held (inside x.kind g).around.gone e → AllOfSite g.site s.world.shared.held → Holds g f u (go e s)

  through_granted : (f : NodeForm) (u : Common) (x : Frame) (go : Ending → State → Result) → GoesGranted f u x go → (r : Result) → IsGranted (inside x.kind g) u r → Holds g f u (through x go r)
  unfolding through
  through_granted f u x go ok (Ended e s) h = ok e s h.0 h.1 h.2 h.3
  through_granted f u x go ok r h = absurd h

  -- what a frame at node k goes on with
  inside_fits : (k : ℕ) (w : Within) → InsidePlain (shape_at g.script k) w → (u : Common) (x : Frame) → Sits g.script u x → HasGone (holds_executor x.kind) g.around.gone → (go : Ending → State → Result)
      → ((w ≡ Executor_wait → ⊥) → (e : Ending) (s : State) → At (inside x.kind g) u s → InsideFits (shape_at g.script k) w s.world.shared e → Holds g (form_of_node k) u (go e s))
      → (w ≡ Executor_wait → GoesGranted (form_of_node k) u x go) → (r : Result) → HoldsAt (inside x.kind g) (spot g.script k w) u r → Holds g (form_of_node k) u (through x go r)
  inside_fits k (Part i) plain u x sits some go ok grant r h = through_inside g (form_of_node k) (form_of_node (part_number g.script k i)) u x some sits go (λ e s at q. ok (λ w. absurd (cc)) e s at (subst (λ f. EndFits f s.world.shared e) (facts.forms k i) q)) r h
  inside_fits k (Inner i j) plain u x sits some go ok grant r h =
      through_inside g (form_of_node k) (form_of_node (part_number g.script (part_number g.script k i) j)) u x some sits go
      (λ e s at q. ok (λ w. absurd (cc)) e s at (end_as g (form_of_node (part_number g.script (part_number g.script k i) j)) form.Block s.world.shared e (quiet_inner k i j plain) refl q)) r h
  inside_fits k (Suffix i) plain u x sits some go ok grant r h =
      through_inside g (form_of_node k) (form_of_node (part_number g.script k i)) u x some sits go
      (λ e s at q. ok (λ w. absurd (cc)) e s at (end_as g (form_of_node (part_number g.script k i)) form.Block s.world.shared e (ap is_declaration (facts.forms k i) ∙ plain) refl q)) r h
  inside_fits k Called plain u x sits some go ok grant r h = through_inside g (form_of_node k) form.Block u x some sits go (ok (λ w. absurd (cc))) r h
  inside_fits k Own_body plain u x sits some go ok grant r h = through_inside g (form_of_node k) form.Block u x some sits go (ok (λ w. absurd (cc))) r h
  inside_fits k Executor_wait plain u x sits some go ok grant r h = through_granted (form_of_node k) u x go (grant refl) r h
  inside_fits k Task_wait plain u x sits some go ok grant r h = through_answered (form_of_node k) u x go (ok (λ w. absurd (cc))) r h
  inside_fits k Person_wait plain u x sits some go ok grant r h = through_answered (form_of_node k) u x go (ok (λ w. absurd (cc))) r h
  inside_fits k Branches_wait plain u x sits some go ok grant r h = through_answered (form_of_node k) u x go (ok (λ w. absurd (cc))) r h

  -- a frame around what stands inside it
  inside_goes : (n : ℕ) (u : Common) (x : Frame) → Sits g.script u x → HasGone (holds_executor x.kind) g.around.gone → (r : Result) → HoldsAt (inside x.kind g) (spot_in g.script x) u r → Holds g (form_of_node x.node) u (through x (continue g.script n x) r)
  inside_goes n u x sits some r h =
      inside_fits x.node (row_at g.script x).inside
      (inside_plain g facts.shaped x.node (shape_at g.script x.node) _ (place_at g facts x.node (sits.fits).node) x.kind x.left x.env x.values u (sits.fits).meets)
      u x sits some (continue g.script n x)
      (λ other. continue_goes g facts n x u sits some (λ is. other (ap (λ d. (frame_row d (shape_at g.script x.node) x.left x.env).inside) is)))
      (λ wait. granted (executor_waits x.kind (shape_at g.script x.node) x.left x.env wait)) r h
    where
      granted : x.kind ≡ kind.NodeWait → GoesGranted (form_of_node x.node) u x (continue g.script n x)
      granted is e s at answer grants all = grant_goes g facts n x u sits is e s (subst (λ d. At (unopened (inside d g)) u s) is at) answer (subst (λ d. Grants s.world.shared.held (inside d g).around.gone e) is grants) all

  -- a node in the place of another
  leads_holds : {k j : ℕ} → Leads g.script k j → (u : Common) (r : Result) → Holds g (form_of_node j) u r → Holds g (form_of_node k) u r
  leads_holds itself u r h = h
  leads_holds {k} (through_part i pass leads) u r h =
      holds_as g (form_of_node (part_number g.script k i)) (form_of_node k) u r (quiet_part k i (passes_quiet (form_of_node k) (form_at (shape_at g.script k).parts i) i pass))
      (passes_plain (form_of_node k) (form_at (shape_at g.script k).parts i) pass) (leads_holds leads u r h)
  leads_holds {k} (through_inner i pass leads) u r h =
      holds_as g (form_of_node (part_number g.script (part_number g.script k i) 1)) (form_of_node k) u r (quiet_inner k i 1 (inner_inside (form_of_node k) (form_at (shape_at g.script k).parts i) pass))
      (inner_plain (form_of_node k) (form_at (shape_at g.script k).parts i) pass) (leads_holds leads u r h)

  -- the frame of a call's body stands at what is called
  body_plain : (u : Common) (x : Frame) → Sits g.script u x → x.kind ≡ kind.CallBody → is_declaration (form_of_node x.node) ≡ false
  body_plain u x sits is = called_plain (form_of_node x.node) (ap (λ d. (frame_row d (shape_at g.script x.node) x.left x.env).stands) (sym is) ∙ ((sits.fits).meets).stands)

  branch_plain : (u : Common) (x : Frame) → Sits g.script u x → x.kind ≡ kind.BranchBody → is_declaration (form_of_node x.node) ≡ false
  branch_plain u x sits is = closure_plain (form_of_node x.node) (ap (λ d. (frame_row d (shape_at g.script x.node) x.left x.env).stands) (sym is) ∙ ((sits.fits).meets).stands)

  -- a frame where it stands
  enters_holds : (u : Common) (x : Frame) (at : Spot) → Sits g.script u x → Enters g.script x at → (r : Result) → Holds g (form_of_node x.node) u r → HoldsAt g at u r
  enters_holds u x (Begun k) sits (own_frame is leads) r h = leads_holds leads u r h
  enters_holds u x (Begun k) sits (entered j is leads call) r h = leads_holds leads u r (holds_as g (form_of_node x.node) (form_of_node j) u r (body_plain u x sits is) (call_plain (form_of_node j) call) h)
  enters_holds u x Any_body sits (any_body is) r h = holds_as g (form_of_node x.node) form.Block u r (body_plain u x sits is) refl h
  enters_holds u x (Body_of k) sits (body_of is node) r h = holds_as g (form_of_node x.node) form.Block u r (body_plain u x sits is) refl h
  enters_holds u x Any_branch sits (any_branch is) r h = holds_as g (form_of_node x.node) form.Block u r (branch_plain u x sits is) refl h
  enters_holds u x For_executor sits e r h = elim e [ ]
  enters_holds u x For_task sits e r h = elim e [ ]
  enters_holds u x For_person sits e r h = elim e [ ]
  enters_holds u x For_branches sits e r h = elim e [ ]

-- what is open inside frames
abbrev pub along : Open → List Frame → Open
along o [] = o
along o (x ∷ path) = along (open_in x.kind o) path

-- each `node` body among them has a request whose executor it gives back
abbrev pub Along : Open → List Frame → Type 0
Along o [] = Unit {0}
Along o (x ∷ path) = HasGone (holds_executor x.kind) o.gone × Along (open_in x.kind o) path

-- Frames that fit and stand one inside the other go on soundly, where what stood inside the last of them came to an end, to a further
-- wait or to an answer soundly.
pub unwind_goes : (g : Base) (facts : ScriptFacts g.script) (n : ℕ) (u : Common) (path : List Frame) (at : Spot) → Chained g.script at path → AllAre (Sits g.script u) path → Along g.around path → (r : Result)
    → HoldsAt (within (along g.around path) g) (innermost g.script at path) u r → HoldsAt g at u (unwind g.script n path r)
unfolding unwind
unwind_goes g facts n u [] at chain sits al r h = h
unwind_goes g facts n u (x ∷ path) at chain sits al r h =
    enters_holds g facts u x at sits.0 chain.0 (through x (continue g.script n x) (unwind g.script n path r))
    (inside_goes g facts n u x sits.0 al.0 (unwind g.script n path r) (unwind_goes (inside x.kind g) facts n u path (spot_in g.script x) chain.1 sits.1 al.1 r h))

-- What is open inside frames that stand for these requests: these besides, and as many folders as the frames have.
pub record Opened (o inner : Open) (own rest : List ℕ) (path : List Frame) : Type 0 where
  pub some : Along o path
  pub nodes : inner.nodes ≡ o.nodes ++ own
  pub folders : inner.folders ≡ o.folders + open_folders path
  pub gone : inner.gone ≡ rest
  pub was : inner.was ≡ o.was

-- one frame: what it stands for, and what is left for those inside it
record Step (a b : Bool) (o inner : Open) (own rest : List ℕ) (m : ℕ) : Type 0 where
  some : HasGone a o.gone
  mine : List ℕ
  gone : inner.gone ≡ mine ++ rest
  many : length mine ≡ m
  nodes : inner.nodes ++ mine ≡ o.nodes ++ own
  folders : inner.folders ≡ o.folders + (if b then 1 else 0)
  was : inner.was ≡ o.was

step_is : (a b : Bool) (o : Open) (own rest : List ℕ) (m : ℕ) → o.gone ≡ own ++ rest → length own ≡ (if a then 1 else 0) + m → Step a b o (in_folder b (in_node a o)) own rest m
step_is false true o own rest m gone many = record { some = tt; mine = own; gone = gone; many = omega (arith, many); nodes = refl; folders = omega arith; was = refl }
step_is false false o own rest m gone many = record { some = tt; mine = own; gone = gone; many = omega (arith, many); nodes = refl; folders = omega arith; was = refl }
step_is true b o [] rest m gone many = absurd (omega (arith, many))
step_is true b o (r ∷ own) rest m gone many = one b o.gone gone
  where
    one : (b : Bool) (gs : List ℕ) → gs ≡ r ∷ (own ++ rest) → Step true b (record o { gone = gs }) (in_folder b (next_node_in gs o)) (r ∷ own) rest m
    one true gs e = subst (λ gs. Step true true (record o { gone = gs }) (in_folder true (next_node_in gs o)) (r ∷ own) rest m) (sym e) (record { some = tt; mine = own; gone = refl; many = omega (arith, many); nodes = append_assoc o.nodes (r ∷ []) own; folders = omega arith; was = refl })
    one false gs e = subst (λ gs. Step true false (record o { gone = gs }) (in_folder false (next_node_in gs o)) (r ∷ own) rest m) (sym e) (record { some = tt; mine = own; gone = refl; many = omega (arith, many); nodes = append_assoc o.nodes (r ∷ []) own; folders = omega arith; was = refl })

pub along_is : (path : List Frame) (o : Open) (own rest : List ℕ) → o.gone ≡ own ++ rest → length own ≡ open_nodes path → Opened o (along o path) own rest path
along_is [] o [] rest gone many = record { some = tt; nodes = sym (append-nil o.nodes); folders = omega arith; gone = gone; was = refl }
along_is [] o (r ∷ own) rest gone many = absurd (omega (arith, many))
along_is (x ∷ path) o own rest gone many =
    let step : Step (holds_executor x.kind) (holds_folder x.kind) o (open_in x.kind o) own rest (open_nodes path) = step_is (holds_executor x.kind) (holds_folder x.kind) o own rest (open_nodes path) gone (many ∙ one_more (λ f. holds_executor f.kind) x path (holds_executor x.kind) refl) in
    let more : Opened (open_in x.kind o) (along (open_in x.kind o) path) step.mine rest path = along_is path (open_in x.kind o) step.mine rest step.gone step.many in
    let folders : open_folders (x ∷ path) ≡ (if holds_folder x.kind then 1 else 0) + open_folders path = one_more (λ f. holds_folder f.kind) x path (holds_folder x.kind) refl in
    record { some = (step.some, more.some); nodes = more.nodes ∙ step.nodes; folders = omega (arith, more.folders, step.folders, folders); gone = more.gone; was = more.was ∙ step.was }
