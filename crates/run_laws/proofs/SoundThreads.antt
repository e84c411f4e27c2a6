-- Threads: from its beginning, and with each answer, a thread goes to a later sound state, and waits inside frames that fit.
use Rattle.std.proofs.Common.{◌≡◌, ◌<◌, ◌+◌, refl, sym, ap, subst, ◌∙◌, ℕ, List, [], ◌∷◌, ◌++◌, length, false}
use Rattle.std.specs.List.{AllByRecursion as AllAre}
use Rattle.model_syntax.specs.declared.node.NodeForm.{NodeForm}
use Rattle.model_syntax.specs.declared.node.NodeForm.TheVariants as form
use Rattle.model_syntax.specs.declared.tree.Tree.{Tree}
use Rattle.model_syntax.specs.TreeNodes.{tree_node}
use Rattle.model_run.specs.declared.frame.Frame.{Frame}
use Rattle.model_run.specs.declared.wait.Answer.{Answer}
use Rattle.model_run.specs.declared.ending.Ending.TheVariants.{Answered}
use Rattle.model_run.specs.declared.ending.Asked.{Asked}
use Rattle.model_run.specs.declared.ending.Entry.TheVariants.{First, Branched}
use Rattle.model_run.specs.Terms.{Term, Numbered, term, number_of, nodes_of, term_at}
use Rattle.model_run.specs.State.{Setting, Common, Own, Reply, State, Ended, Waits}
use Rattle.model_run.specs.Below.{Small, with_answer}
use Rattle.model_run.specs.Meaning.{ev, fuel, unwind}
use Rattle.model_run.specs.Threads.{Runs, Script, Closure, evaluated, stands_from}
use Rattle.model_run.specs.Nesting.{Spot, Begun, Any_body, Body_of, Any_branch, For_executor, For_task, For_person, For_branches, Chained, WaitsFor, innermost, shape_at}
use Rattle.model_run.specs.Scoping.{names_around, names_at}
use Rattle.model_run.specs.Fitting.{EnvFits, IsFlowNode, Later}
use Rattle.model_run.proofs.PathLaws.{PathFrom, outer_spot, stands_paths}
use Rattle.model_run.proofs.Structure.{thread_goes_on}
use Rattle.model_run.proofs.WorldLaws.{frames_chained, waits_there}
use Rattle.run_laws.specs.Soundness.{Base, Open, within, open_nodes, open_folders, Sits, SoundWorld, Pausing, At, Holds}
use Rattle.run_laws.specs.Evaluation.{AnswerThere, HoldsAt, RunsFit, ReplyFits, AllOfSite, unopened, opened_at, turn_open, based}
use Rattle.run_laws.specs.Worlds.{SharedSound, begun_open}
use Rattle.run_laws.proofs.NodeLaws.{Real}
use Rattle.run_laws.proofs.Flow.{later_self, node_then, sits_then}
use Rattle.run_laws.proofs.Evaluation.{ScriptFacts, tree_facts, ev_goes}
use Rattle.run_laws.proofs.Resumption.{along, Opened, along_is, unwind_goes}

real_self : (root : Term) (t : Term) → Real root [] t → term_at root (number_of t) ≡ t
real_self root (Numbered k f ps) h = h.3

real_below : (root : Term) (t : Term) → Real root [] t → number_of t < length (nodes_of root)
real_below root (Numbered k f ps) h = h.0

-- a script sees no variable as it begins
nothing_around : (f : NodeForm) → names_around f [] ≡ []
nothing_around (form.Function x names) = refl
nothing_around f = refl

sees_nothing : (root : Term) (t : Term) → Real root [] t → names_at root (number_of t) ≡ []
sees_nothing root (Numbered k f ps) h = h.2 ∙ nothing_around f

-- an answer at the wait that it is for
answer_holds : (g : Base) (at : Spot) (asked : Asked) → WaitsFor at asked → (u : Common) (s : State) → At (unopened g) u s → (x : Answer) → g.around.gone ≡ opened_at at s.world.shared.held x → AnswerThere s.world.shared x → AllOfSite g.site s.world.shared.held → HoldsAt g at u (Ended (Answered x) s)
answer_holds g For_executor asked w u s at x gone there all = (at, there, sym gone, all)
answer_holds g For_task asked w u s at x gone there all = (subst (λ ns. At (within (record g.around { gone = ns }) g) u s) (sym gone) at, there)
answer_holds g For_person asked w u s at x gone there all = (subst (λ ns. At (within (record g.around { gone = ns }) g) u s) (sym gone) at, there)
answer_holds g For_branches asked w u s at x gone there all = (subst (λ ns. At (within (record g.around { gone = ns }) g) u s) (sym gone) at, there)
answer_holds g (Begun k) asked w u s at x gone there all = absurd w
answer_holds g Any_body asked w u s at x gone there all = absurd w
answer_holds g (Body_of k) asked w u s at x gone there all = absurd w
answer_holds g Any_branch asked w u s at x gone there all = absurd w

pub all_sits_then : (root : Term) (u v : Common) → Later u v → (path : List Frame) → AllAre (Sits root u) path → AllAre (Sits root v) path
all_sits_then root u v l [] h = tt
all_sits_then root u v l (x ∷ path) h = (sits_then u v l root x h.0, all_sits_then root u v l path h.1)

-- a state in which a thread goes on with an answer
abbrev pub going_on : Setting → Common → Own → State
going_on g u own = record { world = record { setting = g; shared = u; own = own }; replies = [] }

-- Frames go on with an answer: their bodies are open, and the answer may open one more.
pub answered_path : (g : Setting) → ScriptFacts g.script → (n : ℕ) (at : Spot) (asked : Asked) (path : List Frame) (u : Common) (own : Own) (nodes : List ℕ) (folders : ℕ) (mine : List ℕ) (x : Answer)
    → Chained g.script at path → WaitsFor (innermost g.script at path) asked → AllAre (Sits g.script u) path → SoundWorld g (going_on g u own).world
    → own.context.held ≡ nodes ++ mine → length mine ≡ open_nodes path → length own.context.folders ≡ folders + open_folders path → AnswerThere u x → AllOfSite g.site u.held
    → HoldsAt (based g (turn_open nodes folders u.held (mine ++ opened_at (innermost g.script at path) u.held x))) at u (unwind g.script n path (Ended (Answered x) (going_on g u own)))
answered_path g facts n at asked path u own nodes folders mine x chain waits sits sound held many counted there all =
    let is : Opened (turn_open nodes folders u.held (mine ++ opened_at (innermost g.script at path) u.held x)) (along (turn_open nodes folders u.held (mine ++ opened_at (innermost g.script at path) u.held x)) path) mine (opened_at (innermost g.script at path) u.held x) path =
    along_is path (turn_open nodes folders u.held (mine ++ opened_at (innermost g.script at path) u.held x)) mine (opened_at (innermost g.script at path) u.held x) refl many in
    unwind_goes (based g (turn_open nodes folders u.held (mine ++ opened_at (innermost g.script at path) u.held x))) facts n u path at chain sits is.some _
    (answer_holds (within (along (turn_open nodes folders u.held (mine ++ opened_at (innermost g.script at path) u.held x)) path) (based g (turn_open nodes folders u.held (mine ++ opened_at (innermost g.script at path) u.held x))))
    (innermost g.script at path) asked waits u (going_on g u own)
    (record { later = later_self u; sound = sound; alone = refl; same = record { nodes = held ∙ sym is.nodes; folders = counted ∙ sym is.folders; held = sym is.was } }) x is.gone there all)

-- how a thread waits, whatever it runs
pub waits_block : (g : Base) (runs : Runs) (u : Common) (asked : Asked) (path : List Frame) (s : State) → HoldsAt g (outer_spot runs) u (Waits asked path s) → Holds g form.Block u (Waits asked path s)
waits_block g Script u asked path s h = h
waits_block g (Closure k env start) u asked path s h = h

pub script_facts : (root : Term) (tree : Tree) → root ≡ term 0 (tree_node tree) → ScriptFacts root
script_facts root tree is = subst ScriptFacts (sym is) (tree_facts tree)

-- what a thread runs, from a sound state
evaluated_goes : (g : Base) → ScriptFacts g.script → (n : ℕ) (runs : Runs) (u : Common) → RunsFit g.script u runs → (s : State) → At g u s → HoldsAt g (outer_spot runs) u (evaluated g.script n runs s)
evaluated_goes g facts n (Closure k env start) u fit s at = ev_goes g facts n (Branched start) k fit.0 u env fit.1 s at
evaluated_goes g facts n Script u fit s at =
    let zero_is : term_at g.script 0 ≡ g.script = ap (term_at g.script) (sym facts.zero_first) ∙ real_self g.script g.script facts.real in
    let low : 0 < length (nodes_of g.script) = subst (λ k. k < length (nodes_of g.script)) facts.zero_first (real_below g.script g.script facts.real) in
    let none : EnvFits u.cells (names_at g.script 0) [] = record { names = sym (ap (names_at g.script) (sym facts.zero_first) ∙ sees_nothing g.script g.script facts.real); variables = tt } in
    subst (λ t. Holds g (shape_at g.script 0).form u (ev g.script n First t [] s)) zero_is (ev_goes g facts n First 0 low u [] none s at)

module _ (g : Setting) (tree : Tree) (is : g.script ≡ term 0 (tree_node tree)) where
  -- A thread that begins behind a sound shared state.
  pub begun_goes : (runs : Runs) (own : Own) (first : Reply) → RunsFit g.script first.shared runs → SharedSound g false first.shared → IsFlowNode first.shared.nodes own.head
      → HoldsAt (based g (begun_open own first.shared.held [])) (outer_spot runs) first.shared (stands_from g runs own (first ∷ []))
  begun_goes runs own first fit shared head =
      evaluated_goes (based g (begun_open own first.shared.held [])) (script_facts g.script tree is) (fuel 0) runs first.shared fit (going_on g first.shared own)
      (record { later = later_self first.shared; sound = record { setting = refl; narrow = shared.narrow; cells = shared.cells; binding = shared.binding; head = head; bounds = shared.bounds }; alone = refl; same = record { nodes = refl; folders = refl; held = refl } })

  -- A thread that waits soundly goes on soundly with an answer that fits, from the shared state with which it comes.
  pub answered_goes : Small g → (runs : Runs) (own : Own) (first : Reply) (rs : List Reply) (r : Reply) (o : Open) (u : Common) (asked : Asked) (path : List Frame) (s : State)
      → stands_from g runs own (first ∷ rs) ≡ Waits asked path s → (holds : Holds (based g o) form.Block u (Waits asked path s)) → ReplyFits g s.world.shared r → AllOfSite g.site r.shared.held
      → HoldsAt (based g (turn_open o.nodes o.folders r.shared.held (((holds.0).pausing).own ++ opened_at (innermost g.script (outer_spot runs) path) r.shared.held r.answer))) (outer_spot runs) r.shared (stands_from g runs own (first ∷ (rs ++ r ∷ [])))
  answered_goes small runs own first rs r o u asked path s stands holds fits all =
      let nested : PathFrom g.script (outer_spot runs) (Waits asked path s) = subst (PathFrom g.script (outer_spot runs)) stands (stands_paths g (tree_node tree) is runs own first rs) in
      let p : Pausing o path s.world = (holds.0).pausing in
      let sound : SoundWorld g s.world = (holds.0).sound in
      subst (HoldsAt (based g (turn_open o.nodes o.folders r.shared.held (((holds.0).pausing).own ++ opened_at (innermost g.script (outer_spot runs) path) r.shared.held r.answer))) (outer_spot runs) r.shared)
      (sym (thread_goes_on g (tree_node tree) is small runs own first rs r ∙ ap (with_answer g.script (fuel (length (rs ++ r ∷ []))) r) stands ∙ ap (λ (x : Setting). unwind g.script (fuel (length (rs ++ r ∷ []))) path (Ended (Answered r.answer) (going_on x r.shared s.world.own))) sound.setting))
      (answered_path g (script_facts g.script tree is) (fuel (length (rs ++ r ∷ []))) (outer_spot runs) asked path r.shared s.world.own o.nodes o.folders p.own r.answer
      (frames_chained g.script (outer_spot runs) path asked nested) (waits_there g.script (outer_spot runs) path asked nested) (all_sits_then g.script s.world.shared r.shared fits.later path holds.2)
      (record { setting = refl; narrow = fits.narrow; cells = fits.cells; binding = fits.binding; bounds = fits.bounds; head = node_then s.world.shared r.shared fits.later s.world.own.head sound.head }) p.nodes p.many p.folders fits.answer all)
