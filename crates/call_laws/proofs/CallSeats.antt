-- A thread of a sound build, as an image holds it, goes on with calls of closures alone.
use Rattle.std.proofs.Common.{◌≡◌, ◌++◌, ap, sym, subst, refl, inl, inr, ℕ, List, ◌∷◌, length, false, Option, Some, None}
use Rattle.std.specs.List.{AllByRecursion as AllAre}
use Rattle.std.proofs.lemmas.Bool.{cases_lt}
use Rattle.std.proofs.lemmas.List.{get_or_past}
use Rattle.model_syntax.specs.declared.tree.Tree.{Tree}
use Rattle.model_syntax.specs.TreeNodes.{tree_node}
use Rattle.model_values.proofs.LaterLaws.{all_weaker, later_itself}
use Rattle.model_run.specs.declared.wait.Answer.{Answer}
use Rattle.model_run.specs.declared.ending.Ending.TheVariants.{Answered}
use Rattle.model_run.specs.declared.ending.Asked.{Asked}
use Rattle.model_run.specs.declared.frame.Frame.{Frame}
use Rattle.model_run.specs.Fitting.{AnswerFits, IsFlowNode, Seat, SeatFits, context_above, known, outermost}
use Rattle.model_run.specs.Meaning.{unwind}
use Rattle.model_run.specs.Nesting.{FrameFits, Nested, CallsClosures, anything, innermost}
use Rattle.model_run.specs.State.{Setting, Common, Own, State, Ended, Waits}
use Rattle.model_run.specs.Terms.{Term, term, term_at, number_of, nodes_of, empty_block, Found}
use Rattle.model_run.proofs.Found.{found_script}
use Rattle.model_run.proofs.LaterLaws.{frame_wider}
use Rattle.run_laws.specs.Soundness.{Base, Sits, Paused, seen}
use Rattle.run_laws.specs.Evaluation.{HoldsAt, based, opened_at, turn_open}
use Rattle.run_laws.specs.Worlds.{SharedSound}
use Rattle.run_laws.proofs.SoundThreads.{going_on, script_facts}
use Rattle.run_laws.proofs.SoundSeats.{seat_goes}
use Rattle.call_laws.specs.Entering.{ComesTo}
use Rattle.call_laws.proofs.Evaluations.{Numbers}
use Rattle.call_laws.proofs.Continuations.{entered_nested, entered_closures, unwind_comes}

-- the nodes of a tree's script are found by their numbers, and each has its own
pub tree_found : (root : Term) (tree : Tree) → root ≡ term 0 (tree_node tree) → Found root root
tree_found root tree is = subst (λ t. Found t t) (sym is) (found_script (tree_node tree))

pub tree_numbers : (root : Term) (tree : Tree) → root ≡ term 0 (tree_node tree) → Numbers root
unfolding term_at
tree_numbers root tree is n = elim (cases_lt n (length (nodes_of root))) [
  | inl lt ↦ (script_facts root tree is).numbers n lt
  | inr le ↦ ap number_of (get_or_past (nodes_of root) n (empty_block n) le)
]

-- how a thread waits, wherever its frames begin
wait_sound : (b : Base) (parent : Option ℕ) (u : Common) (asked : Asked) (path : List Frame) (s : State) → HoldsAt b (outermost parent) u (Waits asked path s) → Paused b u asked path s
wait_sound b None u asked path s h = h.0
wait_sound b (Some p) u asked path s h = h.0

wait_sits : (b : Base) (parent : Option ℕ) (u : Common) (asked : Asked) (path : List Frame) (s : State) → HoldsAt b (outermost parent) u (Waits asked path s) → AllAre (Sits b.script s.world.shared) path
wait_sits b None u asked path s h = h.2
wait_sits b (Some p) u asked path s h = h.2

-- the same frames with any values
pub known_frames : (u : Common) (root : Term) (path : List Frame) → AllAre (FrameFits (known u) root) path → AllAre (FrameFits anything root) path
known_frames u root path h = all_weaker _ _ (λ f fits. frame_wider (known u) anything (λ sort v q. tt) root f fits) path h

pub sitting_frames : (u : Common) (root : Term) (path : List Frame) → AllAre (Sits root u) path → AllAre (FrameFits anything root) path
sitting_frames u root path h = all_weaker _ _ (λ f sits. frame_wider (seen u) anything (λ sort v q. tt) root f sits.fits) path h

-- Where it waits again, it waits inside frames that meet the table and stand one inside the other, up to its wait, and these call
-- closures.
pub seat_calls : (g : Setting) (tree : Tree) → g.script ≡ term 0 (tree_node tree) → (u : Common) (seats : List Seat) (t : Seat) → SharedSound g false u → SeatFits g u seats t
    → (n : ℕ) (own : Own) → IsFlowNode u.nodes own.head → own.context ≡ t.context → (f : Frame) (fs : List Frame) → t.stack ≡ f ∷ fs → (x : Answer) → AnswerFits u (innermost g.script (outermost t.parent) t.stack) t.stack x
    → (asked : Asked) (path : List Frame) (s : State) → unwind g.script n t.stack (Ended (Answered x) (going_on g u own)) ≡ Waits asked path s → Nested g.script (outermost t.parent) path asked × CallsClosures g.script (outermost t.parent) path
seat_calls g tree is u seats t shared fits n own head context f fs stack x answer asked path s waits =
    let b : Base = based g (turn_open (context_above seats t.parent).held (length (context_above seats t.parent).folders) u.held ((fits.own_held).0 ++ opened_at (innermost g.script (outermost t.parent) t.stack) u.held x)) in
    let holds : HoldsAt (based g (turn_open (context_above seats t.parent).held (length (context_above seats t.parent).folders) u.held ((fits.own_held).0 ++ opened_at (innermost g.script (outermost t.parent) t.stack) u.held x))) (outermost t.parent) u (Waits asked path s) =
    subst (HoldsAt (based g (turn_open (context_above seats t.parent).held (length (context_above seats t.parent).folders) u.held ((fits.own_held).0 ++ opened_at (innermost g.script (outermost t.parent) t.stack) u.held x))) (outermost t.parent) u) waits
    (seat_goes g tree is u seats t shared fits n own head context f fs stack x answer) in
    let comes : ComesTo g.script u.cells (outermost t.parent) (Waits asked path s) =
    subst (ComesTo g.script u.cells (outermost t.parent)) waits
    (unwind_comes g.script (tree_found g.script tree is) (tree_numbers g.script tree is) n u.cells (outermost t.parent) t.stack fits.nested (known_frames u g.script t.stack fits.frames) fits.closures (Ended (Answered x) (going_on g u own)) (refl, later_itself u.cells)) in
    let frames : AllAre (FrameFits anything g.script) path = sitting_frames s.world.shared g.script path (wait_sits b t.parent u asked path s holds) in (
      entered_nested g.script s.world.shared.cells (outermost t.parent) path asked frames comes.1,
      entered_closures g.script s.world.shared.cells ((wait_sound b t.parent u asked path s holds).sound).cells (outermost t.parent) path asked frames comes.1,
    )
