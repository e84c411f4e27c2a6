-- What a life with members is: from the opening of the lock to its closing (this product's own).
use Rattle.std.specs.Prelude.{◌≡◌, ◌≤◌, ℕ, true, false, is_some, nat_eq, List, [], ◌++◌, Result, Ok, Err}
use Rattle.std.specs.List.{IsDistinct, AllZip, AllByRecursion as AllAre}
use Rattle.program_lock.specs.declared.program.Memory.{Memory}
use Rattle.program_lock.specs.Legal.{Answers, IsLegal}
use Rattle.agent_worker.specs.declared.member.Member.{Member}
use Rattle.agent_worker.specs.declared.worked.Worked.TheVariants as worked
use Rattle.agent_worker.specs.Gate.{Told}
use Rattle.member_turns.specs.Lower.locked_build.declared.ask.Ask.{Ask}
use Rattle.member_turns.specs.Lower.locked_build.declared.ask.Ask.TheVariants.{Look}
use Rattle.member_turns.specs.Lower.locked_build.declared.ask.Entry.{Entry}
use Rattle.member_turns.specs.Lower.locked_build.declared.ask.Progress.{Progress}
use Rattle.member_turns.specs.Lower.locked_build.declared.ask.Reply.{Reply}
use Rattle.member_turns.specs.Lower.locked_build.declared.ask.Reply.TheVariants as reply
use Rattle.member_turns.specs.Lower.locked_build.Histories.{kept_fault, pending, tooks}
use Rattle.member_turns.specs.Tales.{claimed_of, told_of}
use Rattle.member_turns.specs.Turning.{tasks_of}
use Rattle.member_turns.specs.Ending.{goes_on}
use Rattle.member_turns.specs.Coming.{Came, EachIs}
use Rattle.member_turns.specs.Orders.{AllAnswered, OrdersAreSo}
use Rattle.member_turns.specs.Rounds.{Round, AllAsked, AreTurnsOf, IsRound, RoundsFrom, turns_of}
use Rattle.member_turns.specs.Turns.{Turn, MadeOf, launches_of, HoldsOfOne, DidTurn, Explains, IsExplained}
use Rattle.member_turns.specs.Waiting.{Waited, operators}
use Rattle.member_turns.specs.Ways.{Way}
use Rattle.task_host.specs.View.{HostView}
use Rattle.jp_io.specs.View.{SourceView}

-- How it ended: behind a whole round, where a look said of the state at the closing that there is no other; or within a round, where memory
-- was wanted before the next member's turn. `part` has the entries of that round, which stand behind all others; each answer that a member was
-- given in it is the state's reply behind these.
abbrev pub EndsWith : {H A B : Type 0} → Answers B Entry Ask Reply → B → List (Turn H A) → List (Member H A) → List Entry → List (Member H A) → List Entry → List Entry → Result Progress Memory → Type 0
EndsWith answers base last members before now part history (Ok come) =
    IsRound last members now × MadeOf [] last part × (before ++ part ≡ history) × ∥ AllAsked (answers base) before part last ∥₁
    × answers base history Look (reply.Progress come) [] × (goes_on come now ≡ false)
EndsWith {H} {A} answers base last members before now part history (Err memory) =
    (others : List (Member H A)) × AreTurnsOf last others members now × MadeOf [] last part × (before ++ part ≡ history) × ∥ AllAsked (answers base) before part last ∥₁

module _ {H A : Type 0} (host : HostView H) (source : SourceView A) (looks : ℕ) where
  -- A life of these members, from the base on: its history, and what became of them.
  pub record Life {B : Type 0} (answers : Answers B Entry Ask Reply) (start base : B) (old now : List (Member H A)) (history : List Entry) (how : Result Progress Memory) : Type 0 where
    pub base_stays : base ≡ start
    pub legal : IsLegal answers base history
    -- the rounds behind which the work went on, and the turns of the last one; the members and the entries between them
    pub rounds : List (Round H A)
    pub last : List (Turn H A)
    pub members : List (Member H A)
    pub before : List Entry
    pub part : List Entry
    pub went_on : RoundsFrom answers base rounds old [] members before
    pub ends : EndsWith answers base last members before now part history how
    -- what each turn was
    pub turns : AllAre (DidTurn host source looks) (turns_of rounds ++ last)
    -- and so each member's own way, from what it was to what it became
    pub ways : AllZip (Way (DidTurn host source looks) history) old now
    -- each answer that a member was given is the state's, at a beginning of the history where the entries of that call stand
    pub answered : ∥ AllAre (λ (turn : Turn H A). AllAnswered (answers base) history turn.calls) (turns_of rounds ++ last) ∥₁
    -- who met want of memory has halted the build, where nothing had stopped it
    pub halted : ∥ AllAre (λ (turn : Turn H A). turn.worked ≡ worked.Memory → is_some (kept_fault history) ≡ true) (turns_of rounds ++ last) ∥₁
    -- each order that an executor was given is the state's, as it made it of the open request
    pub orders : ∥ AllAre (λ (turn : Turn H A). OrdersAreSo (answers base) history turn.old turn.calls) (turns_of rounds ++ last) ∥₁
    -- no task was claimed twice, and none launched twice, on whichever hosts
    pub claimed_once : IsDistinct nat_eq (tasks_of (claimed_of history))
    pub launched_once : IsDistinct nat_eq (launches_of (turns_of rounds ++ last))
    -- each event that was reported or decided, and was taken or kept by the disk or the limit, comes from a member
    pub told : AllAre (λ (t : Told). HoldsOfOne (Explains host source looks t.accepted t.event) (turns_of rounds ++ last)) (told_of history)
    -- each decision stands directly behind its line, which decided it there; and one that failed is that of a line
    pub came : ∥ EachIs (Came (answers base)) [] history ∥₁
    -- where at most one of them is an operator: each answer line was heard only where an input was open since the line before it
    pub waited : operators old ≤ 1 → ∥ EachIs (Waited (answers base)) [] history ∥₁
    -- so each event that was taken is explained, and the one whose record the disk may have though it failed
    pub explained : AllAre (IsExplained host source looks (turns_of rounds ++ last) true) (tooks history)
    pub at_risk : AllAre (IsExplained host source looks (turns_of rounds ++ last) false) (pending history)

  -- a life whose turns these are, one behind the other
  pub record LifeOf {B : Type 0} (answers : Answers B Entry Ask Reply) (base : B) (old now : List (Member H A)) (turns : List (Turn H A)) (history : List Entry) : Type 0 where
    pub how : Result Progress Memory
    pub life : Life answers base base old now history how
    pub are : turns ≡ turns_of life.rounds ++ life.last

-- whatever is replied
abbrev pub any_reply : Answers (Unit {0}) Entry Ask Reply
any_reply base history ask reply new = Unit {0}
