-- A member's own way through a life (this product's own).
use Rattle.std.specs.Prelude.{◌≡◌, List, [], ◌∷◌}
use Rattle.std.specs.List.{AllByRecursion as AllAre}
use Rattle.program_lock.specs.Merge.{IsMergeOf}
use Rattle.agent_worker.specs.declared.member.Member.{Member}
use Rattle.member_turns.specs.Lower.locked_build.declared.ask.Entry.{Entry}
use Rattle.member_turns.specs.Turns.{Turn, MadeOf}

module _ {H A : Type 0} where
  -- turns one after the other, each from what the one before left of the member
  abbrev pub Chained : Member H A → List (Turn H A) → Member H A → Type 0
  Chained old [] now = now ≡ old
  Chained old (turn ∷ turns) now = (turn.old ≡ old) × Chained turn.now turns now

-- Its turns, from what it was to what it became, each as `Did` says. Its entries, which these turns made, are a part of the history, each
-- once and in their order; the others are those of the other members.
pub record Way {H A : Type 0} (Did : Turn H A → Type 0) (history : List Entry) (old now : Member H A) : Type 0 where
  pub turns : List (Turn H A)
  pub chain : Chained old turns now
  pub did : AllAre Did turns
  pub own : List Entry
  pub made : MadeOf [] turns own
  pub others : List Entry
  pub part : IsMergeOf own others history
