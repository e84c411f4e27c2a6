-- What is known of every build on the way of a world: between two events, and between two turns of one event.
use Rattle.std.proofs.Common.{arith, ◌≡◌, ap, subst, refl, inl, inr, ℕ, zero, suc, false, List, [], ◌∷◌, Option, Some, None}
use Rattle.std.specs.List.{AllByRecursion as AllAre}
use Rattle.model_syntax.specs.declared.tree.Tree.{Tree}
use Rattle.model_syntax.specs.TreeNodes.{tree_node}
use Rattle.model_run.specs.declared.event.Event.{Event}
use Rattle.model_run.specs.declared.event.Event.TheVariants.{Start as StartEvent, Granted as GrantedEvent, Output as OutputEvent, Exited as ExitedEvent, Lost as LostEvent, Decided as DecidedEvent}
use Rattle.model_run.specs.declared.taken.Taken.TheVariants.{Accepted}
use Rattle.model_run.specs.declared.wait.Wait.{Wait}
use Rattle.model_run.specs.declared.wait.Wait.TheVariants.{Ready, Request as RequestWait, Branches as BranchesWait}
use Rattle.model_run.specs.Below.{Small}
use Rattle.model_run.specs.Fitting.{Some_of}
use Rattle.model_run.specs.Requests.{RequestsFit}
use Rattle.model_run.specs.Since.{Continues}
use Rattle.model_run.specs.State.{Setting}
use Rattle.model_run.specs.Terms.{term}
use Rattle.model_run.specs.Threads.{Thread}
use Rattle.model_run.specs.Waiting.{Stood}
use Rattle.model_run.specs.World.{Build, Turn, turn_if, first_ready, given_answer, resumed, take_turn, settle, uncounted, changed_by, answer_to}
use Rattle.model_run.proofs.LaterWorlds.{settle_goes, changed_goes, uncounted_goes}
use Rattle.model_run.proofs.WaitingLaws.{given_stood, changed_stood}
use Rattle.run_laws.specs.Bounds.{Narrow}
use Rattle.run_laws.specs.Evaluation.{AnswerThere}
use Rattle.run_laws.specs.Worlds.{SoundThread}
use Rattle.run_laws.proofs.EventBounds.{bounds_uncounted}
use Rattle.run_laws.proofs.SoundWorlds.{resumed_sound, TurnSound, first_sound, aside, changed_sound}
use Rattle.world_laws.specs.Agreement.{places, ThreadsAgree}
use Rattle.world_laws.proofs.Agreement.{changed_agrees, turn_agrees}
use Rattle.world_laws.proofs.Opening.{turns_open}
use Rattle.world_laws.proofs.Turns.{IsTurn, IfTurn, first_is}

-- whose turn it is, is one of the threads
abbrev Inside : List Thread → Option Turn → Type 0
Inside ts None = Unit {0}
Inside ts (Some turn) = Some_of (λ t. t ≡ turn.thread) ts

inside_more : (t : Thread) (ts : List Thread) (o : Option Turn) → Inside ts o → Inside (t ∷ ts) o
inside_more t ts None h = tt
inside_more t ts (Some turn) h = inr h

inside_if : (t : Thread) (w : Wait) (ts : List Thread) (rest : Option Turn) → Inside ts rest → Inside (t ∷ ts) (turn_if t w rest)
inside_if t (Ready x) ts rest h = inl refl
inside_if t (RequestWait r) ts rest h = inside_more t ts rest h
inside_if t (BranchesWait js) ts rest h = inside_more t ts rest h

inside_first : (ts : List Thread) → Inside ts (first_ready ts)
inside_first [] = tt
inside_first (t ∷ ts) = inside_if t t.wait ts (first_ready ts) (inside_first ts)

module _ (g : Setting) (tree : Tree) (is : g.script ≡ term 0 (tree_node tree)) (small : Small g) (narrow : Narrow g.limits) where
  pub record Known (b : Build) : Type 0 where
    pub stood : AllAre (Stood g) b.threads
    pub sound : AllAre (SoundThread g b.shared) b.threads
    pub agree : ThreadsAgree g b
    pub fit : RequestsFit g.site b.shared

  -- a turn that comes next
  pub record HasTurn (b : Build) (turn : Turn) : Type 0 where
    pub is_turn : IsTurn g (places b.threads) turn
    pub inside : Some_of (λ t. t ≡ turn.thread) b.threads
    pub answer : AnswerThere b.shared turn.answer
    pub sound : SoundThread g b.shared turn.thread
    pub first : first_ready b.threads ≡ Some turn

  pub has_turn : (b : Build) → Known b → (turn : Turn) → first_ready b.threads ≡ Some turn → HasTurn b turn
  has_turn b k turn e =
      let s : TurnSound g tree is small narrow b.shared (Some turn) = subst (TurnSound g tree is small narrow b.shared) e (first_sound g tree is small narrow b.shared b.threads k.sound k.stood) in
      record { is_turn = subst (IfTurn g (places b.threads)) e (first_is g b.threads k.stood); inside = subst (Inside b.threads) e (inside_first b.threads); answer = s.0; sound = s.1; first = e }

  abbrev pub after_turn : Build → Turn → Build
  after_turn b turn = resumed g (given_answer b.shared turn.answer turn.thread) b

  one_turn : (b : Build) (turn : Turn) → first_ready b.threads ≡ Some turn → settle 1 g b ≡ after_turn b turn
  unfolding settle
  one_turn b turn e = ap (take_turn (settle zero g) g b) e

  -- what a turn leaves
  pub turn_goes : (b : Build) → Known b → (turn : Turn) → HasTurn b turn → Continues g.site b.shared (after_turn b turn).shared
  turn_goes b k turn h = subst (λ (c : Build). Continues g.site b.shared c.shared) (one_turn b turn h.first) (settle_goes g (tree_node tree) is small 1 b k.stood)

  pub turn_known : (b : Build) → Known b → (turn : Turn) → HasTurn b turn → Known (after_turn b turn)
  turn_known b k turn h = record {
    stood = given_stood g b.shared turn.answer turn.thread turn.thread.history refl ((h.is_turn).stood).calls b k.stood;
    sound = resumed_sound g tree is small narrow b turn.answer turn.thread h.answer h.sound (h.is_turn).stood k.sound;
    agree = turn_agrees g small (turns_open g (tree_node tree) is small) b turn h.is_turn k.agree;
    fit = (turn_goes b k turn h).fit k.fit;
  }

  -- what an accepted event changes
  event_fit : (x : Event) (b : Build) → answer_to g b x ≡ Accepted → RequestsFit g.site b.shared → RequestsFit g.site (changed_by g x (uncounted b)).shared
  event_fit (StartEvent script agents) b a fit = record { some = omega arith; requests = tt; rising = tt; held = tt; differ = tt }
  event_fit (GrantedEvent request executor) b a fit = (changed_goes g (tree_node tree) is small (GrantedEvent request executor) tt (uncounted b) a).fit ((uncounted_goes g (tree_node tree) is small b).fit fit)
  event_fit (OutputEvent task stream from bytes) b a fit = (changed_goes g (tree_node tree) is small (OutputEvent task stream from bytes) tt (uncounted b) a).fit ((uncounted_goes g (tree_node tree) is small b).fit fit)
  event_fit (ExitedEvent task code) b a fit = (changed_goes g (tree_node tree) is small (ExitedEvent task code) tt (uncounted b) a).fit ((uncounted_goes g (tree_node tree) is small b).fit fit)
  event_fit (LostEvent task why) b a fit = (changed_goes g (tree_node tree) is small (LostEvent task why) tt (uncounted b) a).fit ((uncounted_goes g (tree_node tree) is small b).fit fit)
  event_fit (DecidedEvent request proceed name) b a fit = (changed_goes g (tree_node tree) is small (DecidedEvent request proceed name) tt (uncounted b) a).fit ((uncounted_goes g (tree_node tree) is small b).fit fit)

  pub event_known : (b : Build) → Known b → (x : Event) → answer_to g b x ≡ Accepted → Known (changed_by g x (uncounted b))
  event_known b k x a = record {
    stood = changed_stood g x (uncounted b) k.stood;
    sound = changed_sound g tree is small narrow x (uncounted b) (aside g tree is small narrow b.shared (uncounted b).shared refl refl refl (λ h. h) (bounds_uncounted false g.site b.shared) b.threads k.sound);
    agree = changed_agrees g x (uncounted b) a (record { agree = (k.agree).agree; kinds = (k.agree).kinds; main = (k.agree).main });
    fit = event_fit x b a k.fit;
  }

  -- what each turn keeps is kept by all turns of an event
  module _ (P : Build → Type 0) (turns : (b : Build) → Known b → P b → (turn : Turn) → HasTurn b turn → P (after_turn b turn)) where
    taken_keeps : (n : ℕ) → ((b : Build) → Known b → P b → Known (settle n g b) × P (settle n g b)) → (b : Build) → Known b → P b → (o : Option Turn) → first_ready b.threads ≡ o → Known (take_turn (settle n g) g b o) × P (take_turn (settle n g) g b o)
    taken_keeps n more b k p None e = (k, p)
    taken_keeps n more b k p (Some turn) e = more (after_turn b turn) (turn_known b k turn (has_turn b k turn e)) (turns b k p turn (has_turn b k turn e))

    pub settle_keeps : (n : ℕ) (b : Build) → Known b → P b → Known (settle n g b) × P (settle n g b)
    unfolding settle
    settle_keeps zero b k p = (k, p)
    settle_keeps (suc n) b k p = taken_keeps n (settle_keeps n) b k p (first_ready b.threads) refl
