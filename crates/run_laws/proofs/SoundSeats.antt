-- A thread of a sound build, as an image holds it, goes on soundly with the answer that it is about to get.
use Rattle.std.proofs.Common.{◌≡◌, ◌∙◌, refl, ap, subst, ℕ, List, [], ◌∷◌, ◌++◌, length, false, Bool}
use Rattle.std.specs.List.{AllByRecursion as AllAre}
use Rattle.model_syntax.specs.declared.tree.Tree.{Tree}
use Rattle.model_syntax.specs.TreeNodes.{tree_node}
use Rattle.model_run.specs.declared.frame.Frame.{Frame}
use Rattle.model_run.specs.declared.wait.Answer.{Answer}
use Rattle.model_run.specs.declared.wait.Answer.TheVariants.{Granted, Done, Decided, Joined}
use Rattle.model_run.specs.declared.ending.Ending.TheVariants.{Answered}
use Rattle.model_run.specs.Terms.{Term, term}
use Rattle.model_run.specs.declared.context.Context.{Context}
use Rattle.model_run.specs.declared.ending.Asked.{Asked}
use Rattle.model_run.specs.declared.ending.Asked.TheVariants.{ForRequest as For_request, ForBranches as For_branching}
use Rattle.model_run.specs.declared.held.Held.{Held}
use Rattle.model_run.specs.declared.site.Site.{Site}
use Rattle.model_run.specs.State.{Setting, Common, Own, Ended}
use Rattle.model_run.specs.Meaning.{unwind}
use Rattle.model_run.specs.Nesting.{Spot, For_executor, For_task, For_person, For_branches, FrameFits, WaitsFor, innermost}
use Rattle.model_run.specs.Scoping.{names_for}
use Rattle.model_run.specs.Fitting.{EnvFits, IsFlowNode, known, AnswerFits, Seat, SeatFits, HeldFits, context_above, outermost, SharedFits}
use Rattle.run_laws.specs.Bounds.{Narrow}
use Rattle.run_laws.specs.Soundness.{Sits}
use Rattle.run_laws.specs.Worlds.{SharedSound}
use Rattle.run_laws.specs.Evaluation.{AnswerThere, AllOfSite, HoldsAt, opened_at, turn_open, based}
use Rattle.run_laws.proofs.SortLaws.{sits_by}
use Rattle.run_laws.proofs.SoundThreads.{going_on, answered_path, script_facts}

all_sit : (root : Term) (u : Common) (fs : List Frame) → AllAre (FrameFits (known u) root) fs → AllAre (λ f. EnvFits u.cells (names_for root f) f.env) fs → AllAre (Sits root u) fs
all_sit root u [] a b = tt
all_sit root u (f ∷ fs) a b = (sits_by root u f a.0 b.0, all_sit root u fs a.1 b.1)

answer_there : (u : Common) (at : Spot) (f : Frame) (fs : List Frame) (x : Answer) → AnswerFits u at (f ∷ fs) x → AnswerThere u x
answer_there u For_executor f fs (Granted x) h = tt
answer_there u For_task f fs (Done code out) h = tt
answer_there u For_person f fs (Decided proceed name) h = tt
answer_there u For_branches f fs (Joined ends) h = h
answer_there u at f fs x h = absurd h

asked_there : (u : Common) (at : Spot) (f : Frame) (fs : List Frame) (x : Answer) → AnswerFits u at (f ∷ fs) x → (asked : Asked) × WaitsFor at asked
asked_there u For_executor f fs (Granted x) h = (For_request 0, tt)
asked_there u For_task f fs (Done code out) h = (For_request 0, tt)
asked_there u For_person f fs (Decided proceed name) h = (For_request 0, tt)
asked_there u For_branches f fs (Joined ends) h = (For_branching [], tt)
asked_there u at f fs x h = absurd h

of_site : (site : Site) (u : Common) (held : List Held) → AllAre (HeldFits site u) held → AllOfSite site held
of_site site u [] h = tt
of_site site u (x ∷ held) h = ((h.0).executor, of_site site u held h.1)

-- the shared state of a sound build is sound by itself
pub fits_shared : (g : Setting) (ended : Bool) (u : Common) → Narrow g.limits → SharedFits g ended u → SharedSound g ended u
fits_shared g ended u narrow h = record {
  narrow = narrow;
  cells = h.cells;
  binding = h.binding;
  held = of_site g.site u u.held h.held;
  bounds = record { short = h.short; few_cells = h.few_cells; few_bytes = h.few_bytes; names = h.names; few_nodes = h.few_nodes; nodes = h.nodes; few_requests = h.few_requests; asks = h.asks };
}

-- Its frames, in any state with these cells, variables and flow nodes, and with its context: as its own bodies end, their executors are
-- given back, and no others.
pub seat_goes : (g : Setting) (tree : Tree) → g.script ≡ term 0 (tree_node tree) → (u : Common) (seats : List Seat) (t : Seat) → SharedSound g false u → (fits : SeatFits g u seats t)
    → (n : ℕ) (own : Own) → IsFlowNode u.nodes own.head → own.context ≡ t.context → (f : Frame) (fs : List Frame) → t.stack ≡ f ∷ fs → (x : Answer) → AnswerFits u (innermost g.script (outermost t.parent) t.stack) t.stack x
    → HoldsAt (based g (turn_open (context_above seats t.parent).held (length (context_above seats t.parent).folders) u.held ((fits.own_held).0 ++ opened_at (innermost g.script (outermost t.parent) t.stack) u.held x))) (outermost t.parent) u
    (unwind g.script n t.stack (Ended (Answered x) (going_on g u own)))
seat_goes g tree is u seats t shared fits n own head context f fs stack x answer =
    let fit : AnswerFits u (innermost g.script (outermost t.parent) t.stack) (f ∷ fs) x = subst (λ st. AnswerFits u (innermost g.script (outermost t.parent) t.stack) st x) stack answer in
    let asks : (asked : Asked) × WaitsFor (innermost g.script (outermost t.parent) t.stack) asked = asked_there u (innermost g.script (outermost t.parent) t.stack) f fs x fit in
    answered_path g (script_facts g.script tree is) n (outermost t.parent) asks.0 t.stack u own (context_above seats t.parent).held (length (context_above seats t.parent).folders) (fits.own_held).0 x
    fits.nested asks.1 (all_sit g.script u t.stack fits.frames fits.envs) (record { setting = refl; narrow = shared.narrow; cells = shared.cells; binding = shared.binding; head = head; bounds = shared.bounds })
    (ap (λ (c : Context). c.held) context ∙ (fits.own_held).1) (fits.own_held).2 (ap (λ (c : Context). length c.folders) context ∙ fits.folders) (answer_there u (innermost g.script (outermost t.parent) t.stack) f fs x fit) shared.held
