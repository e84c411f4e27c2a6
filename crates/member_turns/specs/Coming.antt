-- Whence a decision comes (this product's own): the state takes it with its answer line, in one step.
use Rattle.std.specs.Prelude.{◌≡◌, ℕ, Bool, true, false, List, [], ◌∷◌, ◌++◌, Option, Some, None, Ok, Err}
use Rattle.program_lock.specs.History.{has, entries}
use Rattle.model_run.specs.declared.event.Event.{Event}
use Rattle.model_run.specs.declared.event.Event.TheVariants.{Start, Granted, Output, Exited, Lost, Decided as DecidedEvent}
use Rattle.journal_core.specs.declared.faults.TakeFault.{TakeFault}
use Rattle.agent_worker.specs.declared.gate.Heard.TheVariants.{Decided}
use Rattle.member_turns.specs.Lower.locked_build.declared.ask.Ask.{Ask}
use Rattle.member_turns.specs.Lower.locked_build.declared.ask.Ask.TheVariants.{Answer}
use Rattle.member_turns.specs.Lower.locked_build.declared.ask.Entry.{Entry}
use Rattle.member_turns.specs.Lower.locked_build.declared.ask.Entry.TheVariants.{Took, Claimed, Line, Failed}
use Rattle.member_turns.specs.Lower.locked_build.declared.ask.Reply.{Reply}
use Rattle.member_turns.specs.Lower.locked_build.declared.ask.Reply.TheVariants as reply

abbrev pub is_decision : Event → Bool
is_decision (DecidedEvent request proceed name) = true
is_decision (Start script agents) = false
is_decision (Granted request executor) = false
is_decision (Output task stream place bytes) = false
is_decision (Exited task code) = false
is_decision (Lost task why) = false

module _ (says : List Entry → Ask → Reply → List Entry → Type 0) where
  -- A decision that was taken stands directly behind its line, which decided it behind what stands before that.
  pub record BehindItsLine (before : List Entry) (event : Event) : Type 0 where
    pub front : List Entry
    pub line : List ℕ
    pub is : before ≡ front ++ Line line ∷ []
    pub request : ℕ
    pub grants : List Entry
    pub said : says front (Answer line) (reply.Heard (Ok (Decided request))) (Line line ∷ Took event ∷ grants)

  -- A decision that failed is that of a line, which was answered so behind what stands before it.
  abbrev pub FailedSo : List Entry → TakeFault → Option Event → Type 0
  FailedSo before fault None = Unit {0}
  FailedSo before fault (Some event) = is_decision event ≡ true → (line : List ℕ) × says before (Answer line) (reply.Heard (Err fault)) (Failed fault (Some event) ∷ [])

  -- so an entry, behind these, comes by a line where it is a decision
  abbrev pub Came : List Entry → Entry → Type 0
  Came before (Took event) = is_decision event ≡ true → BehindItsLine before event
  Came before (Failed fault event) = FailedSo before fault event
  Came before (Claimed executor task keep_out kept_log kept_out) = Unit {0}
  Came before (Line line) = Unit {0}

-- it is so of each entry, with those before it
abbrev pub EachIs : (List Entry → Entry → Type 0) → List Entry → List Entry → Type 0
EachIs P before [] = Unit {0}
EachIs P before (entry ∷ later) = P before entry × EachIs P (before ++ entry ∷ []) later

-- the same of those under these numbers
abbrev pub EachUnder : (List Entry → Entry → Type 0) → List ℕ → List (ℕ × Entry) → List (ℕ × Entry) → Type 0
EachUnder P numbers before [] = Unit {0}
EachUnder P numbers before (x ∷ later) = (has numbers x.0 ≡ true → P (entries before) x.1) × EachUnder P numbers (before ++ x ∷ []) later
