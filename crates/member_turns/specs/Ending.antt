-- When the members of a build have another round (this product's own): while it has neither ended nor been stopped, and a task is open, or
-- an input is open while an operator can read on.
use Rattle.std.specs.Prelude.{Bool, false, ◌&&◌, ◌||◌, not, nat_lt, List, [], ◌∷◌}
use Rattle.agent_worker.specs.declared.member.Member.{Member}
use Rattle.agent_worker.specs.declared.member.Member.TheVariants.{Executor, Operator}
use Rattle.member_turns.specs.Lower.locked_build.declared.ask.Progress.{Progress}

-- by how far the build has come, and whether an operator can read on
abbrev pub goes_by : Progress → Bool → Bool
goes_by come can_answer = not (come.ended || come.stopped) && (nat_lt 0 come.tasks || (nat_lt 0 come.waiting && can_answer))

module _ {H A : Type 0} where
  -- an operator whose answers are neither at their end nor failed
  abbrev pub can_read : Member H A → Bool
  can_read (Executor number host) = false
  can_read (Operator answers line ended failed) = not (ended || failed)

  -- one of them is such an operator
  abbrev pub can_answer : List (Member H A) → Bool
  can_answer [] = false
  can_answer (member ∷ members) = can_read member || can_answer members

  abbrev pub goes_on : Progress → List (Member H A) → Bool
  goes_on come members = goes_by come (can_answer members)
