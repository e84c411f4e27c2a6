-- A thread that stands soundly goes on, by the definitions of evaluation: where it stops again, its own bodies are those that it had and
-- has not ended, the executors of the others are given back and no others, and what its steps and walks have called are closures.
use Rattle.std.proofs.Common.{arith, ◌≡◌, ◌∙◌, ◌<◌, ℕ, inl, inr, List, [], ◌++◌, length, Option, Some, None, refl, ap, subst, sym}
use Rattle.std.specs.List.{AllByRecursion as AllAre}
use Rattle.std.proofs.lemmas.Bool.{cases_lt}
use Rattle.std.proofs.lemmas.List.{append-nil, get_or_past, nil_from_length}
use Rattle.model_syntax.specs.declared.node.NodeForm.{NodeForm}
use Rattle.model_syntax.specs.declared.node.NodeForm.TheVariants as form
use Rattle.model_values.specs.declared.cell.Cell.{Cell}
use Rattle.model_values.proofs.LaterLaws.{all_weaker, later_itself}
use Rattle.model_run.specs.declared.context.Context.{Context}
use Rattle.model_run.specs.declared.ending.Asked.{Asked}
use Rattle.model_run.specs.declared.ending.Asked.TheVariants.{ForBranches, ForRequest}
use Rattle.model_run.specs.declared.ending.Ending.TheVariants.{Answered}
use Rattle.model_run.specs.declared.ending.Entry.TheVariants.{Branched, First}
use Rattle.model_run.specs.declared.frame.Frame.{Frame}
use Rattle.model_run.specs.declared.wait.Answer.{Answer}
use Rattle.model_run.specs.declared.wait.Answer.TheVariants.{Begin, Decided, Done, Granted, Joined}
use Rattle.model_run.specs.Below.{Below, IsFinished, Small}
use Rattle.model_run.specs.Fitting.{EnvFits, outermost}
use Rattle.model_run.specs.Meaning.{ev, unwind}
use Rattle.model_run.specs.Nesting.{Any_branch, Begun, CallsClosures, For_branches, For_executor, For_person, For_task, FrameFits, MeetsRow, Spot, WaitsFor, anything, innermost, shape_at}
use Rattle.model_run.specs.Scoping.{names_around, names_at}
use Rattle.model_run.specs.State.{Common, Ended, Env, Limited, Result, Unfinished, Waits}
use Rattle.model_run.specs.Terms.{Numbered, Term, empty_block, nodes_of, number_of, term_at}
use Rattle.model_run.specs.Threads.{Closure, Runs, Script}
use Rattle.model_run.proofs.Found.{term_found}
use Rattle.model_run.proofs.Structure.{enough_fuel, settled}
use Rattle.run_laws.specs.Evaluation.{AnswerThere, HoldsAt, based, opened_at, turn_open}
use Rattle.run_laws.specs.Soundness.{At, Base, Holds, Open, Pausing, Sits, open_folders, open_nodes}
use Rattle.run_laws.proofs.Evaluation.{ScriptFacts, ev_goes}
use Rattle.run_laws.proofs.Flow.{later_self, pausing_here}
use Rattle.run_laws.proofs.NodeLaws.{Real}
use Rattle.run_laws.proofs.SoundThreads.{answered_path}
use Rattle.call_laws.specs.Entering.{ComesTo}
use Rattle.call_laws.proofs.CallSeats.{sitting_frames}
use Rattle.call_laws.proofs.Continuations.{entered_closures, unwind_comes}
use Rattle.call_laws.proofs.Evaluations.{Numbers, ev_comes}
use Rattle.cps_code.specs.Script.{IsScript}
use Rattle.cps_frames.specs.Places.{AnswersAt, EndsAt, HasOpened, Poised}
use Rattle.cps_frames.specs.Runs.{move_result}
use Rattle.cps_frames.specs.Standing.{Standing, state}
use Rattle.cps_frames.specs.declared.thread.Move.{Move}
use Rattle.cps_frames.specs.declared.thread.Move.TheVariants as move
use Rattle.cps_frames.proofs.Bounds.{sits_loosely}
use Rattle.thread_fits.specs.Seats.{StartStands, first_of}
use Rattle.thread_fits.proofs.Facts.{facts_of, found_of}
use Rattle.thread_fits.proofs.FinishLaws.{frames_finish}

-- the fuel of a thread's first turn, but for the node that is entered
abbrev pub turn_fuel : ℕ
turn_fuel = 2999999

-- a script sees no variable as it begins
nothing_around : (f : NodeForm) → names_around f [] ≡ []
nothing_around (form.Function x names) = refl
nothing_around f = refl

sees_nothing : (root t : Term) → Real root [] t → names_at root (number_of t) ≡ []
sees_nothing root (Numbered k f ps) h = h.2 ∙ nothing_around f

below_end : (root t : Term) → Real root [] t → number_of t < length (nodes_of root)
below_end root (Numbered k f ps) h = h.0

-- each number is that of its node, also beyond the last
numbers_of : (root : Term) → ScriptFacts root → Numbers root
unfolding term_at
numbers_of root facts n = elim (cases_lt n (length (nodes_of root))) [
  | inl lt ↦ facts.numbers n lt
  | inr le ↦ ap number_of (get_or_past (nodes_of root) n (empty_block n) le)
]

-- where an answer may come, something is waited for; and what it tells of branches is there
asked_there : (root : Term) (u : Common) (at : Spot) (x : Answer) → EndsAt root u at (Answered x) → (asked : Asked) × WaitsFor at asked
asked_there root u For_executor x h = (ForRequest 0, tt)
asked_there root u For_task x h = (ForRequest 0, tt)
asked_there root u For_person x h = (ForRequest 0, tt)
asked_there root u For_branches x h = (ForBranches [], tt)
asked_there root u (Begun k) x h = absurd h
asked_there root u at x h = absurd h

answers_there : (u : Common) (at : Spot) (x : Answer) → AnswersAt u at (Answered x) → AnswerThere u x
answers_there u For_branches (Joined ends) h = h
answers_there u at Begin h = absurd h
answers_there u at (Granted x) h = tt
answers_there u at (Done code out) h = tt
answers_there u at (Decided proceed name) h = tt
answers_there u at (Joined ends) h = absurd h

answer_there : (root : Term) (u : Common) (at : Spot) (x : Answer) → EndsAt root u at (Answered x) → AnswerThere u x
answer_there root u For_executor x h = answers_there u For_executor x h
answer_there root u For_task x h = answers_there u For_task x h
answer_there root u For_person x h = answers_there u For_person x h
answer_there root u For_branches x h = answers_there u For_branches x h
answer_there root u (Begun k) x h = absurd h
answer_there root u at x h = absurd h

all_meet : (root : Term) (fs : List Frame) → AllAre (FrameFits anything root) fs → AllAre (λ f. MeetsRow anything (shape_at root f.node) f) fs
all_meet root fs h = all_weaker _ _ (λ f fits. fits.meets) fs h

-- What a thread leaves open that has stopped so: what was open around it, and of its own bodies behind its end none, at a wait those on
-- its path. What the steps and walks on the path have called are closures.
abbrev pub LeavesOpen : Term → Spot → Open → Result → Type 0
LeavesOpen root at o (Ended e s) = Pausing o [] s.world
LeavesOpen root at o (Waits asked path s) = Pausing o path s.world × CallsClosures root at path
LeavesOpen root at o (Limited k s) = Unit {0}
LeavesOpen root at o Unfinished = Unit {0}

leaves_by : (g : Base) (f : NodeForm) (at : Spot) (u : Common) (h : List Cell) (r : Result) → Holds g f u r → ComesTo g.script h at r → LeavesOpen g.script at g.around r
leaves_by g f at u h (Ended e s) holds comes = pausing_here g.around s.world (holds.0).same
leaves_by g f at u h (Waits asked path s) holds comes =
    ((holds.0).pausing, entered_closures g.script s.world.shared.cells ((holds.0).sound).cells at path asked (sitting_frames s.world.shared g.script path holds.2) comes.1)
leaves_by g f at u h (Limited k s) holds comes = tt
leaves_by g f at u h Unfinished holds comes = tt

leaves_at : (g : Base) (p : Option ℕ) (u : Common) (h : List Cell) (r : Result) → HoldsAt g (outermost p) u r → ComesTo g.script h (outermost p) r → LeavesOpen g.script (outermost p) g.around r
leaves_at g None u h r holds comes = leaves_by g (shape_at g.script 0).form (Begun 0) u h r holds comes
leaves_at g (Some q) u h r holds comes = leaves_by g form.Block Any_branch u h r holds comes

module _ (u : Standing) (script : IsScript u.world.setting.script) (small : Small u.world.setting) (above : Context) where
  abbrev root : Term
  root = u.world.setting.script

  abbrev facts : ScriptFacts root
  facts = facts_of u.world.setting.script script

  -- what a move comes to inside the frames
  abbrev pub result_of : Move → Result
  result_of m = unwind u.world.setting.script turn_fuel u.stack (move_result u.world.setting.script turn_fuel m (state u.world []))

  -- the requests of its own bodies in a turn: of those that are open, and of the one whose executor the answer gives
  abbrev pub own_in_turn : Option ℕ → HasOpened above u → Answer → List ℕ
  own_in_turn p o x = o.own ++ opened_at (innermost u.world.setting.script (outermost p) u.stack) u.world.shared.held x

  abbrev pub open_in_turn : Option ℕ → HasOpened above u → Answer → Open
  open_in_turn p o x = turn_open above.held (length above.folders) u.world.shared.held (own_in_turn p o x)

  record Goes (p : Option ℕ) (o : HasOpened above u) (x : Answer) (m : Move) : Type 0 where
    finished : IsFinished (result_of m)
    holds : HoldsAt (based u.world.setting (open_in_turn p o x)) (outermost p) u.world.shared (result_of m)
    comes : ComesTo root u.world.shared.cells (outermost p) (result_of m)

  -- with an answer to its wait
  answered_goes : (p : Option ℕ) (x : Answer) (poised : Poised u.world.setting above (outermost p) u (move.Ends (Answered x))) → CallsClosures root (outermost p) u.stack → Goes p poised.opened x (move.Ends (Answered x))
  answered_goes p x poised closures =
      let asks : (asked : Asked) × WaitsFor (innermost u.world.setting.script (outermost p) u.stack) asked = asked_there root u.world.shared (innermost root (outermost p) u.stack) x poised.move in
      let sits : AllAre (Sits u.world.setting.script u.world.shared) u.stack = all_weaker _ _ (λ f h. sits_loosely root u.world.shared f h) u.stack poised.frames in
      let fits : AllAre (FrameFits anything u.world.setting.script) u.stack = sitting_frames u.world.shared root u.stack sits in
      record {
        finished = frames_finish root turn_fuel (omega arith) u.stack (all_meet root u.stack fits) (Answered x) (state u.world []) refl small;
        holds = answered_path u.world.setting facts turn_fuel (outermost p) asks.0 u.stack u.world.shared u.world.own above.held (length above.folders) (poised.opened).own x
            poised.chain asks.1 sits poised.sound (poised.opened).held (poised.opened).many (poised.opened).folders (answer_there root u.world.shared (innermost root (outermost p) u.stack) x poised.move) poised.executors;
        comes = unwind_comes root (found_of root script) (numbers_of root facts) turn_fuel u.world.shared.cells (outermost p) u.stack poised.chain fits closures (Ended (Answered x) (state u.world [])) (refl, later_itself u.world.shared.cells);
      }

  -- It has not begun.
  module _ (none : u.stack ≡ []) where
    own_none : (o : HasOpened above u) → o.own ≡ []
    own_none o = nil_from_length o.own (o.many ∙ ap open_nodes none)

    opened_none : (p : Option ℕ) (x : Answer) → opened_at (outermost p) u.world.shared.held x ≡ []
    opened_none None x = refl
    opened_none (Some q) x = refl

    nothing_own : (p : Option ℕ) (o : HasOpened above u) (x : Answer) → own_in_turn p o x ≡ []
    nothing_own p o x = ap (λ ns. ns ++ opened_at (innermost root (outermost p) u.stack) u.world.shared.held x) (own_none o) ∙ ap (λ fs. opened_at (innermost root (outermost p) fs) u.world.shared.held x) none ∙ opened_none p x

    abbrev bare_base : Base
    bare_base = based u.world.setting (turn_open above.held (length above.folders) u.world.shared.held [])

    at_beginning : (at : Spot) (m : Move) → Poised u.world.setting above at u m → At bare_base u.world.shared (state u.world [])
    at_beginning at m poised = record {
      later = later_self u.world.shared;
      sound = poised.sound;
      alone = refl;
      same = record {
        nodes = (poised.opened).held ∙ ap (λ ns. above.held ++ ns) (own_none poised.opened) ∙ append-nil above.held;
        folders = (let more : open_folders u.stack ≡ 0 = ap open_folders none in omega (arith, more, (poised.opened).folders));
        held = refl;
      };
    }

    -- what a node comes to, the frames come to
    goes_from : (p : Option ℕ) (o : HasOpened above u) (x : Answer) (m : Move) → IsFinished (move_result root turn_fuel m (state u.world [])) → HoldsAt bare_base (outermost p) u.world.shared (move_result root turn_fuel m (state u.world [])) → ComesTo root u.world.shared.cells (outermost p) (move_result root turn_fuel m (state u.world [])) → Goes p o x m
    unfolding unwind
    goes_from p o x m finished holds comes = record {
      finished = subst (λ fs. IsFinished (unwind root turn_fuel fs (move_result root turn_fuel m (state u.world [])))) (sym none) finished;
      holds = subst (λ fs. HoldsAt (based u.world.setting (open_in_turn p o x)) (outermost p) u.world.shared (unwind root turn_fuel fs (move_result root turn_fuel m (state u.world [])))) (sym none)
          (subst (λ ns. HoldsAt (based u.world.setting (turn_open above.held (length above.folders) u.world.shared.held ns)) (outermost p) u.world.shared (move_result root turn_fuel m (state u.world []))) (sym (nothing_own p o x)) holds);
      comes = subst (λ fs. ComesTo root u.world.shared.cells (outermost p) (unwind root turn_fuel fs (move_result root turn_fuel m (state u.world [])))) (sym none) comes;
    }

    script_goes : (x : Answer) (poised : Poised u.world.setting above (Begun 0) u (move.Enter First 0 [])) → Goes None poised.opened x (move.Enter First 0 [])
    script_goes x poised =
        let low : 0 < length (nodes_of u.world.setting.script) = subst (λ k. k < length (nodes_of root)) facts.zero_first (below_end root root facts.real) in
        let sees : EnvFits u.world.shared.cells (names_at u.world.setting.script 0) [] = record { names = sym (ap (names_at root) (sym facts.zero_first) ∙ sees_nothing root root facts.real); variables = tt } in
        goes_from None poised.opened x (move.Enter First 0 []) (enough_fuel root First (term_at root 0) [] (state u.world []) small)
        (ev_goes bare_base facts 3000000 First 0 low u.world.shared [] sees (state u.world []) (at_beginning (Begun 0) (move.Enter First 0 []) poised))
        (subst (λ n. ComesTo root u.world.shared.cells (Begun n) (ev root 3000000 First (term_at root 0) [] (state u.world []))) (numbers_of root facts 0)
        (ev_comes root (found_of root script) (numbers_of root facts) 3000000 First (term_at root 0) (term_found root (found_of root script) 0) u.world.shared.cells [] (state u.world []) (refl, later_itself u.world.shared.cells)))

    branch_goes : (q : ℕ) (k : ℕ) (env : Env) (head : ℕ) (x : Answer) (poised : Poised u.world.setting above Any_branch u (move.Enter (Branched head) k env)) → Goes (Some q) poised.opened x (move.Enter (Branched head) k env)
    branch_goes q k env head x poised =
        goes_from (Some q) poised.opened x (move.Enter (Branched head) k env) (enough_fuel root (Branched head) (term_at root k) env (state u.world []) small)
        (ev_goes bare_base facts 3000000 (Branched head) k (poised.move).1 u.world.shared env (poised.move).2 (state u.world []) (at_beginning Any_branch (move.Enter (Branched head) k env) poised))
        (ev_comes root (found_of root script) (numbers_of root facts) 3000000 (Branched head) (term_at root k) (term_found root (found_of root script) k) u.world.shared.cells env (state u.world []) (refl, later_itself u.world.shared.cells))

  goes_first : (p : Option ℕ) (runs : Option Runs) (x : Answer) (poised : Poised u.world.setting above (outermost p) u (first_of runs x)) → StartStands runs p u.stack → CallsClosures root (outermost p) u.stack → Goes p poised.opened x (first_of runs x)
  goes_first p None x poised start closures = answered_goes p x poised closures
  goes_first None (Some Script) x poised start closures = script_goes start.1 x poised
  goes_first (Some q) (Some Script) x poised start closures = absurd (cc (start.0))
  goes_first None (Some (Closure k env head)) x poised start closures = absurd (cc (start.0))
  goes_first (Some q) (Some (Closure k env head)) x poised start closures = branch_goes start.1 q k env head x poised

  -- So a thread stops, whose first move with an answer comes to this.
  pub turn_leaves : (p : Option ℕ) (runs : Option Runs) (x : Answer) (poised : Poised u.world.setting above (outermost p) u (first_of runs x)) → StartStands runs p u.stack → CallsClosures root (outermost p) u.stack
      → (r : Result) → Below (result_of (first_of runs x)) r → LeavesOpen root (outermost p) (open_in_turn p poised.opened x) r
  turn_leaves p runs x poised start closures r below =
      let h : Goes p poised.opened x (first_of runs x) = goes_first p runs x poised start closures in
      subst (LeavesOpen root (outermost p) (open_in_turn p poised.opened x)) (settled _ _ below h.finished)
      (leaves_at (based u.world.setting (open_in_turn p poised.opened x)) p u.world.shared u.world.shared.cells (result_of (first_of runs x)) h.holds h.comes)
