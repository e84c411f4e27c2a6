-- What members are told (this product's own): each answer is the state's, at its place in the history; so the orders that executors are given
-- are as it made them of the open requests.
use Rattle.std.specs.Prelude.{◌≡◌, ℕ, List, [], ◌∷◌, ◌++◌}
use Rattle.agent_worker.specs.declared.gate.Claim.{Claim}
use Rattle.agent_worker.specs.declared.gate.GateCall.{GateCall}
use Rattle.agent_worker.specs.declared.member.Member.{Member}
use Rattle.agent_worker.specs.declared.member.Member.TheVariants.{Executor, Operator}
use Rattle.agent_worker.specs.Working.{Deed, Claims, Serves, Pauses, Halts, work_reports}
use Rattle.member_turns.specs.Lower.locked_build.declared.ask.Ask.{Ask}
use Rattle.member_turns.specs.Lower.locked_build.declared.ask.Ask.TheVariants as ask
use Rattle.member_turns.specs.Lower.locked_build.declared.ask.Entry.{Entry}
use Rattle.member_turns.specs.Lower.locked_build.declared.ask.Reply.{Reply}
use Rattle.member_turns.specs.Lower.locked_build.declared.ask.Reply.TheVariants as reply
use Rattle.member_turns.specs.Saying.{AnswersCall}
use Rattle.member_turns.specs.Turns.{IsIn}

module _ (says : List Entry → Ask → Reply → List Entry → Type 0) (history : List Entry) where
  -- the call was answered so at a beginning of the history, and its entries stand there
  abbrev pub AnsweredIn : GateCall → Type 0
  AnsweredIn call = (at : List Entry) × (new : List Entry) × (later : List Entry) × (at ++ (new ++ later) ≡ history) × AnswersCall says at call new

  -- each of these calls was
  abbrev pub AllAnswered : List GateCall → Type 0
  AllAnswered calls = (call : GateCall) → IsIn call calls → AnsweredIn call

  -- what a claim of this executor gave is what the state said to it, at a beginning of the history
  abbrev pub GaveSo : ℕ → Claim → Type 0
  GaveSo executor claim = (at : List Entry) × (later : List Entry) × (new : List Entry) × (at ++ later ≡ history) × says at (ask.Claim executor) (reply.Claimed claim) new

  -- of each claim of this work
  abbrev pub ClaimsGaveSo : ℕ → List Deed → Type 0
  ClaimsGaveSo executor [] = Unit {0}
  ClaimsGaveSo executor (Claims claim ∷ past) = GaveSo executor claim × ClaimsGaveSo executor past
  ClaimsGaveSo executor (Serves order acts answer ∷ past) = ClaimsGaveSo executor past
  ClaimsGaveSo executor (Pauses ∷ past) = ClaimsGaveSo executor past
  ClaimsGaveSo executor (Halts ∷ past) = ClaimsGaveSo executor past

  -- Of a turn with these calls: whatever an executor's work was that made them, its claims gave what the state said. The operator claims nothing.
  abbrev pub OrdersAreSo : {H A : Type 0} → Member H A → List GateCall → Type 0
  OrdersAreSo (Executor number host) calls = (past : List Deed) → calls ≡ work_reports number past [] → ClaimsGaveSo number past
  OrdersAreSo (Operator answers line ended failed) calls = Unit {0}
