-- A thread is poised as it begins, and as an image holds it with the answer that it is about to get.
use Rattle.std.proofs.Common.{arith, ◌≡◌, ◌∙◌, ◌<◌, ℕ, false, List, [], ◌∷◌, length, Option, refl, sym, ap, subst}
use Rattle.std.proofs.lemmas.List.{append-nil}
use Rattle.std.specs.List.{AllByRecursion as AllAre}
use Rattle.cell_heap.specs.Region.{Region}
use Rattle.model_run.specs.declared.context.Context.{Context}
use Rattle.model_run.specs.declared.ending.Ending.TheVariants.{Answered}
use Rattle.model_run.specs.declared.ending.Entry.TheVariants.{First, Branched}
use Rattle.model_run.specs.declared.frame.Frame.{Frame}
use Rattle.model_run.specs.declared.wait.Answer.{Answer}
use Rattle.model_run.specs.declared.wait.Answer.TheVariants.{Granted, Done, Decided, Joined}
use Rattle.model_run.specs.Fitting.{AnswerFits, EnvFits, IsFlowNode, Seat, SeatFits, context_above, known, outermost}
use Rattle.model_run.specs.Nesting.{Any_branch, Begun, For_branches, For_executor, For_person, For_task, FrameFits, Spot, innermost, itself}
use Rattle.model_run.specs.Scoping.{names_at, names_for}
use Rattle.model_run.specs.State.{Common, Env, Own, Setting}
use Rattle.model_run.specs.Terms.{Numbered, Term, form_of, nodes_of, number_of, term_at}
use Rattle.model_run.specs.Threads.{Closure}
use Rattle.run_laws.specs.Evaluation.{RunsFit}
use Rattle.run_laws.specs.Soundness.{SoundWorld}
use Rattle.run_laws.specs.Worlds.{SharedSound}
use Rattle.run_laws.proofs.Evaluation.{ScriptFacts}
use Rattle.run_laws.proofs.NodeLaws.{Real}
use Rattle.script_laws.specs.NodeParts.{is_function}
use Rattle.cps_frames.specs.Places.{EndsAt, FrameStands, HasOpened, Poised}
use Rattle.cps_frames.specs.Standing.{Standing}
use Rattle.cps_frames.specs.declared.thread.Move.TheVariants.{Ends, Enter}
use Rattle.cps_frames.proofs.Keeping.{sees_around}

-- the whole script, by its number
script_names : (root t : Term) → Real root [] t → is_function (form_of t) ≡ false → names_at root (number_of t) ≡ []
script_names root (Numbered k f ps) h plain = h.2 ∙ sees_around f [] plain

script_there : (root t : Term) → Real root [] t → term_at root (number_of t) ≡ t
script_there root (Numbered k f ps) h = h.3

script_below : (root t : Term) → Real root [] t → number_of t < length (nodes_of root)
script_below root (Numbered k f ps) h = h.0

-- an answer at the spot of its wait
answered_at : (root : Term) (u : Common) (at : Spot) (f : Frame) (fs : List Frame) (x : Answer) → AnswerFits u at (f ∷ fs) x → EndsAt root u at (Answered x)
answered_at root u For_executor f fs (Granted x) h = h
answered_at root u For_task f fs (Done code out) h = tt
answered_at root u For_person f fs (Decided proceed name) h = tt
answered_at root u For_branches f fs (Joined ends) h = h
answered_at root u at f fs x h = absurd h

all_stand : (root : Term) (u : Common) (fs : List Frame) → AllAre (FrameFits (known u) root) fs → AllAre (λ f. EnvFits u.cells (names_for root f) f.env) fs → AllAre (FrameStands root u) fs
all_stand root u [] a b = tt
all_stand root u (f ∷ fs) a b = (record { fits = a.0; names = b.0 }, all_stand root u fs a.1 b.1)

module _ (g : Setting) (facts : ScriptFacts g.script) where
  -- a thread with these frames
  abbrev pub thread_with : Common → Own → List Frame → Option ℕ → Region → Standing
  thread_with u own fs parent heap = record { world = record { setting = g; shared = u; own = own }; stack = fs; parent = parent; heap = heap }

  sound_with : (u : Common) (own : Own) → SharedSound g false u → IsFlowNode u.nodes own.head → SoundWorld g (record { setting = g; shared = u; own = own })
  sound_with u own shared head = record { setting = refl; narrow = shared.narrow; cells = shared.cells; binding = shared.binding; head = head; bounds = shared.bounds }

  nothing_opened : (u : Common) (own : Own) (parent : Option ℕ) (heap : Region) → HasOpened own.context (thread_with u own [] parent heap)
  nothing_opened u own parent heap = record { own = []; held = sym (append-nil own.context.held); many = refl; folders = omega arith }

  -- the script, as it begins
  pub script_poised : (u : Common) (own : Own) (parent : Option ℕ) (heap : Region) → SharedSound g false u → IsFlowNode u.nodes own.head → Poised g own.context (Begun 0) (thread_with u own [] parent heap) (Enter First 0 [])
  script_poised u own parent heap shared head =
      let there : term_at g.script 0 ≡ g.script = ap (term_at g.script) (sym facts.zero_first) ∙ script_there g.script g.script facts.real in
      record {
        sound = sound_with u own shared head;
        executors = shared.held;
        opened = nothing_opened u own parent heap;
        frames = tt;
        chain = tt;
        move = (
          itself,
          subst (λ k. k < length (nodes_of g.script)) facts.zero_first (script_below g.script g.script facts.real),
          λ plain. record { names = sym (ap (names_at g.script) (sym facts.zero_first) ∙ script_names g.script g.script facts.real (ap (λ t. is_function (form_of t)) (sym there) ∙ plain)); variables = tt },
        );
      }

  -- a branch, as it begins
  pub branch_poised : (u : Common) (own : Own) (parent : Option ℕ) (heap : Region) → SharedSound g false u → IsFlowNode u.nodes own.head → (k : ℕ) (env : Env) (start : ℕ) → RunsFit g.script u (Closure k env start) → Poised g own.context Any_branch (thread_with u own [] parent heap) (Enter (Branched start) k env)
  branch_poised u own parent heap shared head k env start fit = record {
    sound = sound_with u own shared head;
    executors = shared.held;
    opened = nothing_opened u own parent heap;
    frames = tt;
    chain = tt;
    move = (tt, fit.0, fit.1);
  }

  -- A thread of a sound build, as an image holds it, with an answer that fits.
  pub seat_poised : (u : Common) (seats : List Seat) (t : Seat) → SharedSound g false u → (fits : SeatFits g u seats t) → (own : Own) (heap : Region) → IsFlowNode u.nodes own.head → own.context ≡ t.context → (f : Frame) (fs : List Frame) → t.stack ≡ f ∷ fs
      → (x : Answer) → AnswerFits u (innermost g.script (outermost t.parent) t.stack) t.stack x → Poised g (context_above seats t.parent) (outermost t.parent) (thread_with u own t.stack t.parent heap) (Ends (Answered x))
  seat_poised u seats t shared fits own heap head context f fs stack x answer = record {
    sound = sound_with u own shared head;
    executors = shared.held;
    opened = record {
      own = (fits.own_held).0;
      held = ap (λ (c : Context). c.held) context ∙ (fits.own_held).1;
      many = (fits.own_held).2;
      folders = ap (λ (c : Context). length c.folders) context ∙ fits.folders;
    };
    frames = all_stand g.script u t.stack fits.frames fits.envs;
    chain = fits.nested;
    move = answered_at g.script u (innermost g.script (outermost t.parent) t.stack) f fs x (subst (λ st. AnswerFits u (innermost g.script (outermost t.parent) t.stack) st x) stack answer);
  }
