-- The turns of the members of a life (this product's own).
use Rattle.std.specs.Prelude.{◌≡◌, ◌⊎◌, ℕ, Bool, true, false, List, [], ◌∷◌, ◌++◌}
use Rattle.program_lock.specs.Merge.{IsMergeOf}
use Rattle.model_run.specs.declared.event.Event.{Event}
use Rattle.agent_worker.specs.declared.gate.GateCall.{GateCall}
use Rattle.agent_worker.specs.declared.gate.Said.{Said}
use Rattle.agent_worker.specs.declared.gate.Said.TheVariants.{Nothing}
use Rattle.agent_worker.specs.declared.member.Member.{Member}
use Rattle.agent_worker.specs.declared.member.Member.TheVariants.{Executor, Operator}
use Rattle.agent_worker.specs.declared.worked.Worked.{Worked}
use Rattle.agent_worker.specs.Gate.{GateTells, Decides, told_at}
use Rattle.agent_worker.specs.MemberWork.{WorksAs}
use Rattle.agent_worker.specs.Operating.{Operates, given_in}
use Rattle.agent_worker.specs.Working.{telling, on_host}
use Rattle.member_turns.specs.Lower.locked_build.declared.ask.Entry.{Entry}
use Rattle.member_turns.specs.Tales.{claimed_of, is_grant, tells_of, told_of}
use Rattle.member_turns.specs.Turning.{tasks_of, IsPart, IsCausedBy, ExecutorTurn}
use Rattle.member_turns.specs.Served.{Executed}
use Rattle.task_host.specs.View.{HostView}
use Rattle.jp_io.specs.View.{SourceView}

-- A turn: the member before it and behind it, how its work ended, the entries that it left in the history, the calls of its gate, what
-- that said last and whether a line could still be given to it, and what it added to the launches of its host.
pub record Turn (H A : Type 0) : Type 0 where
  pub old : Member H A
  pub now : Member H A
  pub worked : Worked
  pub own : List Entry
  pub calls : List GateCall
  pub said : Said
  pub is_open : Bool
  pub launches : List ℕ

-- it is one of these
abbrev pub IsIn : {A : Type 0} → A → List A → Type 0
IsIn x [] = ⊥
IsIn x (y ∷ ys) = (y ≡ x) ⊎ IsIn x ys

-- it is so of one of these
abbrev pub HoldsOfOne : {A : Type 0} → (A → Type 0) → List A → Type 0
HoldsOfOne P [] = ⊥
HoldsOfOne P (x ∷ xs) = P x ⊎ HoldsOfOne P xs

module _ {H A : Type 0} where
  -- the entries that all had before these turns and behind them: each turn puts its own among them, each once and in their order
  abbrev pub MadeOf : List Entry → List (Turn H A) → List Entry → Type 0
  MadeOf before [] after = before ≡ after
  MadeOf before (turn ∷ turns) after = (mid : List Entry) × IsMergeOf before turn.own mid × MadeOf mid turns after

  -- all launches of these turns
  abbrev pub launches_of : List (Turn H A) → List ℕ
  launches_of [] = []
  launches_of (turn ∷ turns) = turn.launches ++ launches_of turns

  -- What an executor added to the launches of its host are tasks that it claimed in this turn, each at most once for its claim. The
  -- operator launches nothing.
  abbrev pub Launches : HostView H → Member H A → Member H A → List Entry → List ℕ → Type 0
  Launches host (Executor number machine) (Executor now next) own more = (host.launches next ≡ host.launches machine ++ more) × IsPart more (tasks_of (claimed_of own))
  Launches host (Operator answers line ended failed) (Operator next kept now_ended now_failed) own more = more ≡ []
  Launches host (Executor number machine) (Operator next kept now_ended now_failed) own more = ⊥
  Launches host (Operator answers line ended failed) (Executor now next) own more = ⊥

module _ {H A : Type 0} (host : HostView H) (source : SourceView A) (looks : ℕ) where
  -- a member's work, by what its gate told before it and tells behind it
  abbrev pub Work : Member H A → Member H A → Worked → GateTells → GateTells → Type 0
  Work m n worked old now = WorksAs host (telling host (λ t. t)) (λ t. t) source looks m n old now worked

  -- What a turn was: the member did its work over a gate that was new, and this is what the entries of the turn tell.
  pub record DidTurn (turn : Turn H A) : Type 0 where
    pub works : Work turn.old turn.now turn.worked (tells_of [] [] Nothing false) (tells_of turn.own turn.calls turn.said turn.is_open)
    pub executed : Executed host looks turn.old turn.now turn.worked turn.own turn.calls
    pub launched : Launches host turn.old turn.now turn.own turn.launches

  -- An executor reported the event in one of its serves, with its cause there; a line that the operator read and gave decides it.
  abbrev pub ComesFrom : Event → Member H A → Member H A → Worked → List Entry → List GateCall → GateTells → Type 0
  ComesFrom e (Executor number machine) (Executor now next) worked own gate_calls told =
      (did : ExecutorTurn number looks (host.honest machine) own gate_calls (host.calls machine) (host.calls next) (on_host host machine) (on_host host next) worked) × IsCausedBy looks did.past e
  ComesFrom e (Operator answers line ended failed) (Operator next kept now_ended now_failed) worked own gate_calls told =
      (did : Operates (tells_of [] [] Nothing false) told (source.left answers) (source.left next) line kept ended now_ended worked) × ((given : List ℕ) × IsIn given (given_in did.past) × ((request : ℕ) × Decides given request e))
  ComesFrom e (Executor number machine) (Operator next kept now_ended now_failed) worked own gate_calls told = ⊥
  ComesFrom e (Operator answers line ended failed) (Executor now next) worked own gate_calls told = ⊥

  -- The event was taken in this turn, or its take was kept from the disk by a fault, as `accepted` says; and it comes from the member.
  pub record Explains (accepted : Bool) (event : Event) (turn : Turn H A) : Type 0 where
    pub told : IsIn (told_at event accepted) (told_of turn.own)
    pub comes : ComesFrom event turn.old turn.now turn.worked turn.own turn.calls (tells_of turn.own turn.calls turn.said turn.is_open)

  -- the event is a grant, which the build makes behind another event; or it is so explained by one of these turns
  abbrev pub IsExplained : List (Turn H A) → Bool → Event → Type 0
  IsExplained turns accepted event = (is_grant event ≡ true) ⊎ HoldsOfOne (Explains accepted event) turns
