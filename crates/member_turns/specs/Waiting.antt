-- When an answer line is heard (this product's own): only where an input was open since the line before it.
use Rattle.std.specs.Prelude.{◌≡◌, ◌<◌, ℕ, suc, List, [], ◌∷◌, ◌++◌}
use Rattle.agent_worker.specs.declared.gate.Inputs.{Inputs}
use Rattle.agent_worker.specs.declared.member.Member.{Member}
use Rattle.agent_worker.specs.declared.member.Member.TheVariants.{Executor, Operator}
use Rattle.member_turns.specs.Lower.locked_build.declared.ask.Ask.{Ask}
use Rattle.member_turns.specs.Lower.locked_build.declared.ask.Ask.TheVariants as ask
use Rattle.member_turns.specs.Lower.locked_build.declared.ask.Entry.{Entry}
use Rattle.member_turns.specs.Lower.locked_build.declared.ask.Entry.TheVariants.{Took, Claimed, Line, Failed}
use Rattle.member_turns.specs.Lower.locked_build.declared.ask.Reply.{Reply}
use Rattle.member_turns.specs.Lower.locked_build.declared.ask.Reply.TheVariants as reply
use Rattle.member_turns.specs.Lower.locked_build.Histories.{lines}

module _ (says : List Entry → Ask → Reply → List Entry → Type 0) where
  -- At a beginning of these entries, behind which no line stands in them, the state said that an input is open.
  pub record InputWasOpen (before : List Entry) : Type 0 where
    pub at : List Entry
    pub later : List Entry
    pub begins : at ++ later ≡ before
    pub no_line : lines later ≡ []
    pub there : Inputs
    pub new : List Entry
    pub said : says at ask.Inputs (reply.Inputs there) new
    pub open_then : 0 < there.waiting

  -- so an entry, behind these, where it is a line
  abbrev pub Waited : List Entry → Entry → Type 0
  Waited before (Line line) = InputWasOpen before
  Waited before (Took event) = Unit {0}
  Waited before (Claimed executor task keep_out kept_log kept_out) = Unit {0}
  Waited before (Failed fault event) = Unit {0}

module _ {H A : Type 0} where
  -- how many of the members are operators
  abbrev pub operators : List (Member H A) → ℕ
  operators [] = 0
  operators (Executor number host ∷ members) = operators members
  operators (Operator answers line ended failed ∷ members) = suc (operators members)
