-- What the pass of whoever has the lock open knows behind rounds (this product's own): v is what it knew before, and w what it knows.
use Rattle.std.specs.Prelude.{◌≡◌, ℕ, List, [], ◌++◌, Some, Result, IfOk}
use Rattle.std.specs.List.{AllByRecursion as AllAre}
use Rattle.program_lock.specs.declared.program.Memory.{Memory}
use Rattle.program_lock.specs.declared.view.Known.{Known}
use Rattle.program_lock.specs.History.{entries, entries_of, under}
use Rattle.program_lock.specs.Legal.{Answers}
use Rattle.agent_worker.specs.declared.member.Member.{Member}
use Rattle.member_turns.specs.Lower.locked_build.declared.ask.Ask.{Ask}
use Rattle.member_turns.specs.Lower.locked_build.declared.ask.Entry.{Entry}
use Rattle.member_turns.specs.Lower.locked_build.declared.ask.Progress.{Progress}
use Rattle.member_turns.specs.Lower.locked_build.declared.ask.Reply.{Reply}
use Rattle.member_turns.specs.Lower.locked_build.declared.ask.Reply.TheVariants as reply
use Rattle.member_turns.specs.Lives.{EndsWith}
use Rattle.member_turns.specs.Coming.{Came, EachUnder}
use Rattle.member_turns.specs.Rounds.{Round, AllAsked, AreTurnsOf, RoundsFrom, turns_of}
use Rattle.member_turns.specs.Turns.{Turn, MadeOf}

-- the kind of reply that a look gets
abbrev pub IsProgress : Reply → Type 0
IsProgress (reply.Progress come) = Unit {0}
IsProgress (reply.Taken r) = ⊥
IsProgress (reply.Claimed c) = ⊥
IsProgress (reply.Inputs there) = ⊥
IsProgress (reply.Heard r) = ⊥
IsProgress reply.Halted = ⊥

-- all that the pass has seen stands under its numbers
abbrev pub IsWhole : {B : Type 0} → Known Entry B → Type 0
IsWhole k = under k.numbers k.seen ≡ k.seen

-- each decision under its numbers came by its line
abbrev pub CameUnder : {B : Type 0} → Answers B Entry Ask Reply → Known Entry B → Type 0
CameUnder {B} answers k = (base : B) → k.base ≡ Some base → EachUnder (Came (answers base)) k.numbers [] k.seen

-- A pass that goes on: its base is the same, and it has seen all that it had seen, and more; where all of it is its own, all that it had
-- seen was so; and decisions under its numbers come by their lines, as they did.
pub record GoesOn {B : Type 0} (answers : Answers B Entry Ask Reply) (v w : Known Entry B) : Type 0 where
  pub base_stays : w.base ≡ v.base
  pub more : List (ℕ × Entry)
  pub begins : v.seen ++ more ≡ w.seen
  pub whole : IsWhole w → IsWhole v
  pub came : ∥ (CameUnder answers v → CameUnder answers w) ∥₁

-- A round, or the turns of its first members where memory was wanted before the next: the entries of these turns stand behind those that
-- the pass had. Each turn was as `Did` says, and each answer that its member was given is the state's reply within what was seen more.
pub record TakesRound {H A B : Type 0} (Did : Turn H A → Type 0) (answers : Answers B Entry Ask Reply) (old now : List (Member H A)) (v w : Known Entry B) (how : Result (Unit {0}) Memory) : Type 0 where
  pub goes : GoesOn answers v w
  pub turns : List (Turn H A)
  pub others : List (Member H A)
  pub are : AreTurnsOf turns others old now
  pub all : IfOk how (λ _. others ≡ [])
  pub part : List Entry
  pub made : MadeOf [] turns part
  pub added : entries_of w.numbers w.seen ≡ entries_of v.numbers v.seen ++ part
  pub did : AllAre Did turns
  pub asked : ∥ ((base : B) → w.base ≡ Some base → AllAsked (answers base) (entries v.seen) (entries goes.more) turns) ∥₁

-- Rounds, until there is no other, where all that the pass has seen is its own.
pub record TakesRounds {H A B : Type 0} (Did : Turn H A → Type 0) (answers : Answers B Entry Ask Reply) (old now : List (Member H A)) (v w : Known Entry B) (how : Result Progress Memory) : Type 0 where
  pub goes : GoesOn answers v w
  pub rounds : List (Round H A)
  pub last : List (Turn H A)
  pub members : List (Member H A)
  pub before : List Entry
  pub part : List Entry
  pub went_on : (base : B) → w.base ≡ Some base → IsWhole w → RoundsFrom answers base rounds old (entries_of v.numbers v.seen) members before
  pub ends : (base : B) → w.base ≡ Some base → IsWhole w → EndsWith answers base last members before now part (entries w.seen) how
  pub did : AllAre Did (turns_of rounds ++ last)
