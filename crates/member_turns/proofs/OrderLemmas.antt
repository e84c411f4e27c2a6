-- What members were told, by the calls of their gates: the orders of executors, and that who met want of memory has halted the build.
use Rattle.std.proofs.Common.{◌≡◌, ◌∙◌, inl, inr, ℕ, Bool, true, false, is_some, Option, None, List, [], ◌∷◌, ◌++◌, Some, Result, Ok, Err, refl, sym, ap, subst, append_assoc, append-nil}
use Rattle.std.proofs.Math.Logic.{∥∥₁_map}
use Rattle.std.specs.List.{AllByRecursion as AllAre}
use Rattle.program_lock.specs.declared.program.Memory.{Memory}
use Rattle.program_lock.specs.Legal.{Answers}
use Rattle.settle_laws.specs.Stances.{Stance}
use Rattle.member_turns.specs.Lower.build_core.Builds.{Parts}
use Rattle.journal_core.specs.declared.faults.TakeFault.{TakeFault}
use Rattle.agent_worker.specs.declared.gate.Claim.{Claim}
use Rattle.agent_worker.specs.declared.gate.GateCall.{GateCall}
use Rattle.agent_worker.specs.declared.gate.GateCall.TheVariants as gate_call
use Rattle.agent_worker.specs.declared.gate.Said.{Said}
use Rattle.agent_worker.specs.declared.gate.Said.TheVariants.{Nothing}
use Rattle.agent_worker.specs.declared.member.Member.{Member}
use Rattle.agent_worker.specs.declared.member.Member.TheVariants.{Executor, Operator}
use Rattle.agent_worker.specs.declared.worked.Worked.{Worked}
use Rattle.agent_worker.specs.declared.worked.Worked.TheVariants as worked
use Rattle.agent_worker.specs.Operating.{Ask as OperatorDeed, operator_calls}
use Rattle.agent_worker.specs.Acts.{Act, Called, Reported, with_reports}
use Rattle.agent_worker.specs.Working.{Deed, Claims, Serves, Pauses, Halts, work_reports}
use Rattle.member_turns.specs.Lower.locked_build.declared.ask.Ask.{Ask}
use Rattle.member_turns.specs.Lower.locked_build.declared.ask.Ask.TheVariants as ask
use Rattle.member_turns.specs.Lower.locked_build.declared.ask.Entry.{Entry}
use Rattle.member_turns.specs.Lower.locked_build.declared.ask.Entry.TheVariants.{Took, Claimed, Line, Failed}
use Rattle.member_turns.specs.Lower.locked_build.declared.ask.Progress.{Progress}
use Rattle.member_turns.specs.Lower.locked_build.declared.ask.Reply.{Reply}
use Rattle.member_turns.specs.Lower.locked_build.declared.ask.Reply.TheVariants as reply
use Rattle.member_turns.specs.Lower.locked_build.Histories.{kept_fault}
use Rattle.member_turns.specs.Lower.locked_build.Says.{SaysAt}
use Rattle.member_turns.proofs.Lower.locked_build.HistoryLaws.{kept_fault-append}
use Rattle.member_turns.specs.Saying.{AnswersCall}
use Rattle.member_turns.specs.Tales.{tells_of}
use Rattle.member_turns.proofs.PartLemmas.{all_append, all_map}
use Rattle.member_turns.specs.Lives.{EndsWith}
use Rattle.member_turns.specs.Orders.{AllAnswered, AnsweredIn, GaveSo, ClaimsGaveSo, OrdersAreSo}
use Rattle.member_turns.specs.Rounds.{Round, AllAsked, RoundsFrom, WereAsked, turns_of}
use Rattle.member_turns.specs.Turns.{Turn, IsIn, Work, DidTurn}
use Rattle.member_turns.proofs.ComeLemmas.{said_by}
use Rattle.member_turns.proofs.GoingLemmas.{both_true}
use Rattle.task_host.specs.View.{HostView}
use Rattle.jp_io.specs.View.{SourceView}

module _ {A : Type 0} where
  in_front : (x : A) (xs ys : List A) → IsIn x xs → IsIn x (xs ++ ys)
  in_front x [] ys is = absurd is
  in_front x (y ∷ xs) ys (inl is) = inl is
  in_front x (y ∷ xs) ys (inr is) = inr (in_front x xs ys is)

  at_end : (x : A) (xs : List A) → IsIn x (xs ++ x ∷ [])
  at_end x [] = inl refl
  at_end x (y ∷ xs) = inr (at_end x xs)

module _ (says : List Entry → Ask → Reply → List Entry → Type 0) where
  -- a call was answered at a beginning of what was seen
  asked_at : (front : List Entry) (calls : List GateCall) (own rest : List Entry) → WereAsked says front calls own rest → (call : GateCall) → IsIn call calls
      → AnsweredIn says (front ++ rest) call
  asked_at front [] own rest a call is = absurd is
  asked_at front (c ∷ cs) own rest a call (inl is) = (
    front ++ a.0,
    a.1,
    a.3,
    append_assoc front a.0 (a.1 ++ a.3) ∙ ap (λ (l : List Entry). front ++ l) (sym a.4),
    subst (λ (x : GateCall). AnswersCall says (front ++ a.0) x a.1) is a.6,
  )
  asked_at front (c ∷ cs) own rest a call (inr is) =
      let r = asked_at (front ++ (a.0 ++ a.1)) cs a.2 a.3 a.7 call is in
      (r.0, r.1, r.2, r.3 ∙ append_assoc front (a.0 ++ a.1) a.3 ∙ ap (λ (l : List Entry). front ++ l) (append_assoc a.0 a.1 a.3 ∙ sym a.4), r.4)

  in_reports : (call : GateCall) (acts : List Act) (old : List GateCall) → IsIn call old → IsIn call (with_reports acts old)
  in_reports call [] old is = is
  in_reports call (Called c ∷ acts) old is = in_reports call acts old is
  in_reports call (Reported event answer ∷ acts) old is = in_front call (with_reports acts old) (gate_call.Report event answer ∷ []) (in_reports call acts old is)

  module _ (history : List Entry) (number : ℕ) where
    claims_by : (past : List Deed) → ((c : Claim) → IsIn (gate_call.Claim number c) (work_reports number past []) → GaveSo says history number c) → ClaimsGaveSo says history number past
    claims_by [] gave = tt
    claims_by (Claims claim ∷ past) gave = (
      gave claim (at_end (gate_call.Claim number claim) (work_reports number past [])),
      claims_by past (λ c is. gave c (in_front (gate_call.Claim number c) (work_reports number past []) (gate_call.Claim number claim ∷ []) is)),
    )
    claims_by (Serves order acts answer ∷ past) gave = claims_by past (λ c is. gave c (in_reports (gate_call.Claim number c) acts (work_reports number past []) is))
    claims_by (Pauses ∷ past) gave = claims_by past gave
    claims_by (Halts ∷ past) gave = claims_by past (λ c is. gave c (in_front (gate_call.Claim number c) (work_reports number past []) (gate_call.Halt ∷ []) is))

  -- within more of the history
  answered_on : (before part later history : List Entry) → (before ++ part) ++ later ≡ history → (calls : List GateCall) (own : List Entry) → WereAsked says before calls own part → AllAnswered says history calls
  answered_on before part later history is calls own asked = λ call among.
      let r = asked_at before calls own part asked call among in
      (r.0, r.1, r.2 ++ later, ap (λ (l : List Entry). r.0 ++ l) (sym (append_assoc r.1 r.2 later)) ∙ sym (append_assoc r.0 (r.1 ++ r.2) later) ∙ ap (λ (l : List Entry). l ++ later) r.3 ∙ is, r.4)

  -- the orders of one turn
  orders_so : {H A : Type 0} (history : List Entry) (member : Member H A) (calls : List GateCall) → AllAnswered says history calls → OrdersAreSo says history member calls
  orders_so history (Executor number host) calls all = λ past same. claims_by history number past (λ c among.
      let r = all (gate_call.Claim number c) (subst (IsIn (gate_call.Claim number c)) (sym same) among) in (r.0, r.1 ++ r.2, r.1, r.3, r.4))
  orders_so history (Operator answers line ended failed) calls all = tt

  abbrev pub AreSo : {H A : Type 0} → List Entry → List (Turn H A) → Type 0
  AreSo {H} {A} history turns = AllAre (λ (turn : Turn H A). AllAnswered says history turn.calls) turns

  turns_so : {H A : Type 0} (before part later history : List Entry) → (before ++ part) ++ later ≡ history → (turns : List (Turn H A)) → AllAsked says before part turns → AreSo history turns
  turns_so {H} {A} before part later history is turns all =
      all_map (λ (turn : Turn H A). WereAsked says before turn.calls turn.own part) (λ (turn : Turn H A). AllAnswered says history turn.calls) turns
      (λ turn a. answered_on before part later history is turn.calls turn.own a) all

module _ {H A B : Type 0} (answers : Answers B Entry Ask Reply) (base : B) where
  -- rounds add entries behind those before them
  rounds_begin : (rounds : List (Round H A)) (olds nows : List (Member H A)) (before after : List Entry) → RoundsFrom answers base rounds olds before nows after → (more : List Entry) × (before ++ more ≡ after)
  rounds_begin [] olds nows before after r = ([], append-nil before ∙ sym r.1)
  rounds_begin (round ∷ rounds) olds nows before after r =
      let rest = rounds_begin rounds r.0 nows (before ++ r.1) after r.7 in (r.1 ++ rest.0, sym (append_assoc before r.1 rest.0) ∙ rest.1)

  rounds_so : (rounds : List (Round H A)) (olds nows : List (Member H A)) (before after later history : List Entry) → RoundsFrom answers base rounds olds before nows after → after ++ later ≡ history
      → ∥ AreSo (answers base) history (turns_of rounds) ∥₁
  rounds_so [] olds nows before after later history r is = ∣ tt ∣₁
  rounds_so (round ∷ rounds) olds nows before after later history r is =
      let rest = rounds_begin rounds r.0 nows (before ++ r.1) after r.7 in
      let here : (before ++ r.1) ++ (rest.0 ++ later) ≡ history = sym (append_assoc (before ++ r.1) rest.0 later) ∙ ap (λ (l : List Entry). l ++ later) rest.1 ∙ is in
      both_true (λ (all : AllAsked (answers base) before r.1 round.turns) (more : AreSo (answers base) history (turns_of rounds)).
      all_append (λ (turn : Turn H A). AllAnswered (answers base) history turn.calls) round.turns (turns_of rounds) (turns_so (answers base) before r.1 (rest.0 ++ later) history here round.turns all) more)
      r.6 (rounds_so rounds r.0 nows (before ++ r.1) after later history r.7 is)

  last_so : (last : List (Turn H A)) (before part history : List Entry) → before ++ part ≡ history → ∥ AllAsked (answers base) before part last ∥₁ → ∥ AreSo (answers base) history last ∥₁
  last_so last before part history is asked = ∥∥₁_map asked (λ (all : AllAsked (answers base) before part last). turns_so (answers base) before part [] history (append-nil (before ++ part) ∙ is) last all)

  ended_so : (last : List (Turn H A)) (members nows : List (Member H A)) (before part history : List Entry) (how : Result Progress Memory) → EndsWith answers base last members before nows part history how
      → (before ++ part ≡ history) × ∥ AllAsked (answers base) before part last ∥₁
  ended_so last members nows before part history (Ok come) e = (e.2, e.3)
  ended_so last members nows before part history (Err memory) e = (e.3, e.4)

  -- the calls of all turns of a life
  pub life_answered : (rounds : List (Round H A)) (last : List (Turn H A)) (olds members nows : List (Member H A)) (before part history : List Entry) (how : Result Progress Memory)
      → RoundsFrom answers base rounds olds [] members before → EndsWith answers base last members before nows part history how → ∥ AreSo (answers base) history (turns_of rounds ++ last) ∥₁
  life_answered rounds last olds members nows before part history how went ended =
      let e = ended_so last members nows before part history how ended in
      both_true (λ (one : AreSo (answers base) history (turns_of rounds)) (two : AreSo (answers base) history last).
      all_append (λ (turn : Turn H A). AllAnswered (answers base) history turn.calls) (turns_of rounds) last one two)
      (rounds_so rounds olds members [] before part history went e.0) (last_so last before part history e.0 e.1)

  -- and so the orders
  pub life_orders : (turns : List (Turn H A)) (history : List Entry) → ∥ AreSo (answers base) history turns ∥₁ → ∥ AllAre (λ (turn : Turn H A). OrdersAreSo (answers base) history turn.old turn.calls) turns ∥₁
  life_orders turns history so = ∥∥₁_map so (λ (all : AreSo (answers base) history turns).
      all_map (λ (turn : Turn H A). AllAnswered (answers base) history turn.calls) (λ (turn : Turn H A). OrdersAreSo (answers base) history turn.old turn.calls) turns
      (λ turn a. orders_so (answers base) history turn.old turn.calls a) all)

all_both : {A : Type 0} (P Q R : A → Type 0) (xs : List A) → ((x : A) → P x → Q x → R x) → AllAre P xs → AllAre Q xs → AllAre R xs
all_both P Q R [] f ps qs = tt
all_both P Q R (x ∷ xs) f ps qs = (f x ps.0 qs.0, all_both P Q R xs f ps.1 qs.1)

-- a fault that was kept is kept
fault_stays : (h more : List Entry) (f : TakeFault) → kept_fault h ≡ Some f → kept_fault (h ++ more) ≡ Some f
fault_stays [] more f is = absurd (cc)
fault_stays (Took e ∷ h) more f is = fault_stays h more f is
fault_stays (Claimed executor task keep_out kept_log kept_out ∷ h) more f is = fault_stays h more f is
fault_stays (Line line ∷ h) more f is = fault_stays h more f is
fault_stays (Failed fault event ∷ h) more f is = is

module _ {T : Type 0} (stance : T → Stance) (b : Parts T) where
  -- behind a halt a fault is kept
  halt_kept : (h new later : List Entry) (kept : Option TakeFault) → kept_fault h ≡ kept → SaysAt stance b h kept ask.Halt reply.Halted new → is_some (kept_fault (h ++ (new ++ later))) ≡ true
  halt_kept h new later (Some f) is says = ap is_some (fault_stays h (new ++ later) f is)
  halt_kept h new later None is says = ap is_some (kept_fault-append h (new ++ later) is ∙ ap (λ (l : List Entry). kept_fault (l ++ later)) says)

  halted_in : (history : List Entry) → AnsweredIn (said_by stance b) history gate_call.Halt → is_some (kept_fault history) ≡ true
  halted_in history a = subst (λ (l : List Entry). is_some (kept_fault l) ≡ true) a.3 (halt_kept a.0 a.1 a.2 (kept_fault a.0) refl a.4)

module _ {H A : Type 0} (host : HostView H) (source : SourceView A) (looks : ℕ) where
  abbrev Did : Turn H A → Type 0
  Did turn = DidTurn host source looks turn

  -- who met want of memory called for a halt
  member_halts : (m n : Member H A) (own : List Entry) (gate_calls : List GateCall) (said : Said) (is_open : Bool)
      → Work host source looks m n worked.Memory (tells_of [] [] Nothing false) (tells_of own gate_calls said is_open) → IsIn gate_call.Halt gate_calls
  member_halts (Executor number machine) (Executor now next) own gate_calls said is_open w =
      let same : gate_calls ≡ work_reports number w.3.ends.0 [] ++ gate_call.Halt ∷ [] = w.3.so_far.reports ∙ ap (λ (past : List Deed). work_reports number past []) w.3.ends.1 in
      subst (IsIn gate_call.Halt) (sym same) (at_end gate_call.Halt (work_reports number w.3.ends.0 []))
  member_halts (Operator answers line ended failed) (Operator next kept now_ended now_failed) own gate_calls said is_open w =
      let same : gate_calls ≡ operator_calls w.0.ends.0 [] ++ gate_call.Halt ∷ [] = w.0.so_far.calls ∙ ap (λ (past : List OperatorDeed). operator_calls past []) w.0.ends.1 in
      subst (IsIn gate_call.Halt) (sym same) (at_end gate_call.Halt (operator_calls w.0.ends.0 []))
  member_halts (Executor number machine) (Operator next kept now_ended now_failed) own gate_calls said is_open w = absurd w
  member_halts (Operator answers line ended failed) (Executor now next) own gate_calls said is_open w = absurd w

  turn_halts : (turn : Turn H A) → Did turn → turn.worked ≡ worked.Memory → IsIn gate_call.Halt turn.calls
  turn_halts turn d is = member_halts turn.old turn.now turn.own turn.calls turn.said turn.is_open
      (subst (λ (x : Worked). Work host source looks turn.old turn.now x (tells_of [] [] Nothing false) (tells_of turn.own turn.calls turn.said turn.is_open)) is d.works)

  pub life_halted : {T : Type 0} (stance : T → Stance) (b : Parts T) (turns : List (Turn H A)) (history : List Entry) → AllAre Did turns → ∥ AreSo (said_by stance b) history turns ∥₁
      → ∥ AllAre (λ (turn : Turn H A). turn.worked ≡ worked.Memory → is_some (kept_fault history) ≡ true) turns ∥₁
  life_halted stance b turns history did so = ∥∥₁_map so (λ (all : AreSo (said_by stance b) history turns).
      all_both Did (λ (turn : Turn H A). AllAnswered (said_by stance b) history turn.calls) (λ (turn : Turn H A). turn.worked ≡ worked.Memory → is_some (kept_fault history) ≡ true) turns
      (λ turn d a is. halted_in stance b history (a gate_call.Halt (turn_halts turn d is))) did all)
