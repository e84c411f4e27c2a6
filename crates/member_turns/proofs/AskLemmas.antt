-- What each ask adds to what a gate tells, and which reply it gets.
use Rattle.std.proofs.Common.{◌≡◌, ◌<◌, ℕ, Bool, true, false, List, [], ◌∷◌, ◌++◌, Option, Some, None, Result, Ok, Err, inl, inr, refl, sym, ap, ◌∙◌, subst, append-nil}
use Rattle.program_lock.specs.declared.view.Known.{Known}
use Rattle.program_lock.specs.History.{entries, entries_of}
use Rattle.program_lock.specs.Calls.{Steps}
use Rattle.program_lock.proofs.EntryLemmas.{entries_of-step}
use Rattle.model_run.specs.declared.event.Event.{Event}
use Rattle.model_run.specs.declared.event.Event.TheVariants.{Start, Granted, Output, Exited, Lost, Decided as DecidedEvent}
use Rattle.model_run.specs.declared.request.OpenRequest.{OpenRequest}
use Rattle.model_run.specs.declared.taken.Taken.{Taken}
use Rattle.model_run.specs.declared.taken.Taken.TheVariants.{Accepted}
use Rattle.task_host.specs.declared.order.Order.{Order}
use Rattle.settle_laws.specs.Stances.{Stance}
use Rattle.locked_build.specs.Lower.build_core.Builds.{Parts}
use Rattle.journal_core.specs.declared.faults.TakeFault.{TakeFault}
use Rattle.journal_core.specs.declared.faults.TakeFault.TheVariants.{Memory, Disk, Full, Stopped}
use Rattle.agent_worker.specs.declared.gate.Claim.{Claim}
use Rattle.agent_worker.specs.declared.gate.Claim.TheVariants as claim
use Rattle.agent_worker.specs.declared.gate.Heard.{Heard}
use Rattle.agent_worker.specs.declared.gate.Heard.TheVariants.{Decided, Skipped}
use Rattle.agent_worker.specs.declared.gate.Inputs.{Inputs}
use Rattle.agent_worker.specs.Gate.{Told, told_at, told_as, is_told, added_if, Claimed as ClaimedTask, claimed_as, claimed_in, heard_of, AddsClaim, IsOf, IsToldOf, Decides as IsAnswer}
use Rattle.locked_build.specs.declared.ask.Ask.{Ask}
use Rattle.locked_build.specs.declared.ask.Ask.TheVariants as ask
use Rattle.locked_build.specs.declared.ask.Entry.{Entry}
use Rattle.locked_build.specs.declared.ask.Reply.{Reply}
use Rattle.locked_build.specs.declared.ask.Reply.TheVariants as reply
use Rattle.locked_build.specs.Histories.{kept_fault, lines}
use Rattle.locked_build.specs.Claims.{ClaimSays}
use Rattle.locked_build.specs.Hearing.{AnswerSays}
use Rattle.locked_build.specs.Says.{Says, SaysAt}
use Rattle.agent_worker.specs.declared.gate.GateCall.TheVariants as gate_call
use Rattle.agent_worker.specs.declared.gate.GateCall.{GateCall}
use Rattle.member_turns.specs.Asking.{WasCalled, IsTaken, IsClaimed, IsInputs, IsHeard}
use Rattle.member_turns.specs.Saying.{AnswersCall}
use Rattle.member_turns.specs.Tales.{is_grant, is_of_task, told_of, claimed_of}
use Rattle.member_turns.proofs.TaleLemmas.{Adds, adds_entries, IsSilent, none_silent, told_if_any, TellsTake, take_tells}
use Rattle.member_turns.proofs.ClaimLaws.{free_order}

-- One ask through a pass: the state replied at some history since its opening, and the entries of the ask are added to those of the
-- pass.
pub record Asked {T : Type 0} (stance : T → Stance) (ask : Ask) (r : Reply) (old now : List Entry) : Type 0 where
  pub opening : Parts T
  pub before : List Entry
  pub new : List Entry
  pub says : Says stance opening before ask r new
  pub own : now ≡ old ++ new

-- A step of the lock is an ask.
pub asked_step : {B T : Type 0} (stance : T → Stance) (opening : B → Parts T) (v w : Known Entry B) (a : Ask) (r : Reply)
    → Steps (λ base history x y new. Says stance (opening base) history x y new) v a r w → Asked stance a r (entries_of v.numbers v.seen) (entries_of w.numbers w.seen)
asked_step stance opening v w a r step = record {
  opening = opening step.base;
  before = entries step.before;
  new = step.new;
  says = step.answered;
  own = entries_of-step (λ base history x y new. Says stance (opening base) history x y new) v a r w step;
}

-- What the entries of a claim tell.
pub record TellsClaim (x : ℕ) (c : Claim) (new : List Entry) : Type 0 where
  pub told : told_of new ≡ []
  pub claimed : claimed_of new ≡ claimed_in c
  pub heard : lines new ≡ []
  pub own : IsOf x c
  pub busy : (n : ℕ) → c ≡ claim.Idle n → 0 < n

quiet_claim : (x : ℕ) (c : Claim) (new : List Entry) → claimed_in c ≡ [] → IsOf x c → ((n : ℕ) → c ≡ claim.Idle n → 0 < n) → new ≡ [] → TellsClaim x c new
quiet_claim x c new none own busy is = record { told = ap told_of is; claimed = ap claimed_of is ∙ sym none; heard = ap lines is; own = own; busy = busy }

not_idle_order : (order : Order) (n : ℕ) → claim.Order order ≡ claim.Idle n → ⊥
not_idle_order order n e = cc

not_idle_rest : (n : ℕ) → claim.Rest ≡ claim.Idle n → ⊥
not_idle_rest n e = cc

not_idle_stopped : (n : ℕ) → claim.Stopped ≡ claim.Idle n → ⊥
not_idle_stopped n e = cc

not_idle_memory : (n : ℕ) → claim.Memory ≡ claim.Idle n → ⊥
not_idle_memory n e = cc

idle_same : (m n : ℕ) → claim.Idle m ≡ claim.Idle n → m ≡ n
idle_same m n e = cc

claimed_same : (order : Order) (x n : ℕ) → order.executor ≡ x → order.task ≡ n
    → record { executor = x; task = n; keep_out = order.keep_out; kept_log = order.kept_log; kept_out = order.kept_out } ≡ claimed_as order
claimed_same order x n of_executor of_task = λ i. record { executor = sym of_executor i; task = sym of_task i; keep_out = order.keep_out; kept_log = order.kept_log; kept_out = order.kept_out }

claim_says : (rs : List OpenRequest) (h : List Entry) (x : ℕ) (c : Claim) (new : List Entry) → ClaimSays rs h x c new → TellsClaim x c new
claim_says rs h x (claim.Order order) new says =
    let order_is = free_order h x rs says.0 order says.1 says.2 in
    record {
      told = ap told_of says.3;
      claimed = ap claimed_of says.3 ∙ ap (λ (t : ClaimedTask). t ∷ []) (claimed_same order x says.0.number order_is.0 order_is.1);
      heard = ap lines says.3;
      own = order_is.0;
      busy = λ n is. absurd (not_idle_order order n is);
    }
claim_says rs h x (claim.Idle busy) new says = quiet_claim x (claim.Idle busy) new refl tt (λ n is. subst (λ (m : ℕ). 0 < m) (idle_same busy n is) says.2) says.3
claim_says rs h x claim.Rest new says = quiet_claim x claim.Rest new refl tt (λ n is. absurd (not_idle_rest n is)) says.2
claim_says rs h x claim.Stopped new says = absurd says
claim_says rs h x claim.Memory new says = quiet_claim x claim.Memory new refl tt (λ n is. absurd (not_idle_memory n is)) says

-- What the entries of an answer line tell.
pub record TellsAnswer (line : List ℕ) (r : Result Heard TakeFault) (new : List Entry) : Type 0 where
  pub more : List Told
  pub of_line : IsToldOf line r more
  pub told : told_of new ≡ more
  pub claimed : claimed_of new ≡ []
  pub heard : lines new ≡ heard_of line r

decision_plain : (line : List ℕ) (request : ℕ) (event : Event) → IsAnswer line request event → is_grant event ≡ false
decision_plain line request event d = ap is_grant d.is

answer_says : {T : Type 0} (stance : T → Stance) (b : Parts T) (line : List ℕ) (r : Result Heard TakeFault) (new : List Entry) → AnswerSays stance b line r new → TellsAnswer line r new
answer_says stance b line (Ok (Decided request)) new says =
    let event = says.0 in
    let t = take_tells stance b event (Ok Accepted) says.1 (decision_plain line request event says.2.answer) says.3 in
    record {
      more = told_at event true ∷ [];
      of_line = (event, says.2.answer, refl);
      told = ap told_of says.4 ∙ t.told;
      claimed = ap claimed_of says.4 ∙ t.claimed;
      heard = ap lines says.4 ∙ ap (λ (l : List (List ℕ)). line ∷ l) t.heard;
    }
answer_says stance b line (Ok Skipped) new says = record { more = []; of_line = refl; told = ap told_of says.1; claimed = ap claimed_of says.1; heard = ap lines says.1 }
answer_says stance b line (Err Memory) new says = record { more = []; of_line = refl; told = ap told_of says; claimed = ap claimed_of says; heard = ap lines says }
answer_says stance b line (Err Disk) new says =
    let t = take_tells stance b says.1 (Err Disk) new (decision_plain line says.0 says.1 says.2.answer) says.3 in
    record { more = told_at says.1 false ∷ []; of_line = (says.0, says.1, says.2.answer, refl); told = t.told; claimed = t.claimed; heard = t.heard }
answer_says stance b line (Err (Full len add)) new says =
    let t = take_tells stance b says.1 (Err (Full len add)) new (decision_plain line says.0 says.1 says.2.answer) says.3 in
    record { more = told_at says.1 false ∷ []; of_line = (says.0, says.1, says.2.answer, refl); told = t.told; claimed = t.claimed; heard = t.heard }
answer_says stance b line (Err Stopped) new says = absurd says.3.0

-- what a reply has in it
abbrev taken_in : Reply → Result Taken TakeFault
taken_in (reply.Taken a) = a
taken_in _ = Err Stopped

abbrev gave_in : Reply → Claim
gave_in (reply.Claimed c) = c
gave_in _ = claim.Stopped

abbrev heard_in : Reply → Result Heard TakeFault
heard_in (reply.Heard a) = a
heard_in _ = Err Stopped

module _ {T : Type 0} (stance : T → Stance) (opening : Parts T) (h : List Entry) where
  taken_at : (f : Option TakeFault) (e : Event) (r : Reply) (new : List Entry) → SaysAt stance opening h f (ask.Take e) r new → IsTaken r
  taken_at (Some f) e r new says = subst IsTaken (sym says.0) tt
  taken_at None e (reply.Taken r) new says = tt
  taken_at None e (reply.Claimed c) new says = absurd says
  taken_at None e (reply.Inputs i) new says = absurd says
  taken_at None e (reply.Heard r) new says = absurd says
  taken_at None e (reply.Progress p) new says = absurd says
  taken_at None e reply.Halted new says = absurd says

  claimed_at : (f : Option TakeFault) (x : ℕ) (r : Reply) (new : List Entry) → SaysAt stance opening h f (ask.Claim x) r new → IsClaimed r
  claimed_at (Some f) x r new says = subst IsClaimed (sym says.0) tt
  claimed_at None x (reply.Claimed c) new says = tt
  claimed_at None x (reply.Taken r) new says = absurd says
  claimed_at None x (reply.Inputs i) new says = absurd says
  claimed_at None x (reply.Heard r) new says = absurd says
  claimed_at None x (reply.Progress p) new says = absurd says
  claimed_at None x reply.Halted new says = absurd says

  inputs_at : (f : Option TakeFault) (r : Reply) (new : List Entry) → SaysAt stance opening h f ask.Inputs r new → IsInputs r
  inputs_at (Some f) r new says = subst IsInputs (sym says.0) tt
  inputs_at None (reply.Inputs i) new says = tt
  inputs_at None (reply.Taken r) new says = absurd says
  inputs_at None (reply.Claimed c) new says = absurd says
  inputs_at None (reply.Heard r) new says = absurd says
  inputs_at None (reply.Progress p) new says = absurd says
  inputs_at None reply.Halted new says = absurd says

  heard_at : (f : Option TakeFault) (line : List ℕ) (r : Reply) (new : List Entry) → SaysAt stance opening h f (ask.Answer line) r new → IsHeard r
  heard_at (Some f) line r new says = subst IsHeard (sym says.0) tt
  heard_at None line (reply.Heard r) new says = tt
  heard_at None line (reply.Taken r) new says = absurd says
  heard_at None line (reply.Claimed c) new says = absurd says
  heard_at None line (reply.Inputs i) new says = absurd says
  heard_at None line (reply.Progress p) new says = absurd says
  heard_at None line reply.Halted new says = absurd says

  -- what the entries of each ask tell
  take_at : (f : Option TakeFault) (e : Event) (r : Result Taken TakeFault) (new : List Entry) → is_grant e ≡ false → SaysAt stance opening h f (ask.Take e) (reply.Taken r) new → TellsTake new e r
  take_at (Some f) e r new plain says =
      let stopped : r ≡ Err Stopped = ap taken_in says.0 in
      subst (TellsTake new e) (sym stopped) (subst (λ (es : List Entry). TellsTake es e (Err Stopped)) (sym says.1) (record { told = refl; claimed = refl; heard = refl }))
  take_at None e r new plain says = take_tells stance says.0 e r new plain says.2.1

  -- a claim
  claim_at : (f : Option TakeFault) (x : ℕ) (c : Claim) (new : List Entry) → SaysAt stance opening h f (ask.Claim x) (reply.Claimed c) new → TellsClaim x c new
  claim_at (Some f) x c new says =
      let stopped : c ≡ claim.Stopped = ap gave_in says.0 in
      subst (λ (y : Claim). TellsClaim x y new) (sym stopped) (quiet_claim x claim.Stopped new refl tt (λ n is. absurd (not_idle_stopped n is)) says.1)
  claim_at None x c new says = claim_says says.0.shared.requests h x c new says.2

  -- an answer line
  answer_at : (f : Option TakeFault) (line : List ℕ) (r : Result Heard TakeFault) (new : List Entry) → SaysAt stance opening h f (ask.Answer line) (reply.Heard r) new → TellsAnswer line r new
  answer_at (Some f) line r new says =
      let stopped : r ≡ Err Stopped = ap heard_in says.0 in
      subst (λ (y : Result Heard TakeFault). TellsAnswer line y new) (sym stopped) (record { more = []; of_line = refl; told = ap told_of says.1; claimed = ap claimed_of says.1; heard = ap lines says.1 })
  answer_at None line r new says = answer_says stance says.0 line r new says.2.1

  inputs_none : (f : Option TakeFault) (i : Inputs) (new : List Entry) → SaysAt stance opening h f ask.Inputs (reply.Inputs i) new → new ≡ []
  inputs_none (Some f) i new says = says.1
  inputs_none None i new says = says.1

  halt_silent : (f : Option TakeFault) (r : Reply) (new : List Entry) → SaysAt stance opening h f ask.Halt r new → IsSilent new
  halt_silent (Some f) r new says = subst IsSilent (sym says.1) none_silent
  halt_silent None reply.Halted new says = subst IsSilent (sym says) (record { told = refl; claimed = refl; heard = refl })
  halt_silent None (reply.Taken r) new says = absurd says
  halt_silent None (reply.Claimed c) new says = absurd says
  halt_silent None (reply.Inputs i) new says = absurd says
  halt_silent None (reply.Heard r) new says = absurd says
  halt_silent None (reply.Progress p) new says = absurd says

-- an ask that tells nothing
adds_nothing : (old new now : List Entry) → now ≡ old ++ new → IsSilent new → Adds old now [] [] []
adds_nothing old new now is s =
    let a = adds_entries old new now is in
    record {
      told_so = a.told_so ∙ ap (λ (l : List Told). told_of old ++ l) s.told;
      claimed_so = a.claimed_so ∙ ap (λ (l : List ClaimedTask). claimed_of old ++ l) s.claimed;
      heard_so = a.heard_so ∙ ap (λ (l : List (List ℕ)). lines old ++ l) s.heard;
    }

module _ {T : Type 0} {stance : T → Stance} {old now : List Entry} where
  pub take_replies : (e : Event) (r : Reply) → Asked stance (ask.Take e) r old now → IsTaken r
  take_replies e r a = taken_at stance a.opening a.before (kept_fault a.before) e r a.new a.says

  pub claim_replies : (x : ℕ) (r : Reply) → Asked stance (ask.Claim x) r old now → IsClaimed r
  claim_replies x r a = claimed_at stance a.opening a.before (kept_fault a.before) x r a.new a.says

  pub inputs_replies : (r : Reply) → Asked stance ask.Inputs r old now → IsInputs r
  inputs_replies r a = inputs_at stance a.opening a.before (kept_fault a.before) r a.new a.says

  pub answer_replies : (line : List ℕ) (r : Reply) → Asked stance (ask.Answer line) r old now → IsHeard r
  answer_replies line r a = heard_at stance a.opening a.before (kept_fault a.before) line r a.new a.says

  pub claim_told : (x : ℕ) (said : Reply) (c : Claim) → said ≡ reply.Claimed c → (a : Asked stance (ask.Claim x) said old now) → TellsClaim x c a.new
  claim_told x said c is a = claim_at stance a.opening a.before (kept_fault a.before) x c a.new (subst (λ (y : Reply). Says stance a.opening a.before (ask.Claim x) y a.new) is a.says)

  pub take_adds : (e : Event) (said : Reply) (r : Result Taken TakeFault) → is_grant e ≡ false → said ≡ reply.Taken r → Asked stance (ask.Take e) said old now → Adds old now (told_if_any e r) [] []
  take_adds e said r plain is a =
      let t = take_at stance a.opening a.before (kept_fault a.before) e r a.new plain (subst (λ (y : Reply). Says stance a.opening a.before (ask.Take e) y a.new) is a.says) in
      let more = adds_entries old a.new now a.own in
      record {
        told_so = more.told_so ∙ ap (λ (l : List Told). told_of old ++ l) t.told;
        claimed_so = more.claimed_so ∙ ap (λ (l : List ClaimedTask). claimed_of old ++ l) t.claimed;
        heard_so = more.heard_so ∙ ap (λ (l : List (List ℕ)). lines old ++ l) t.heard;
      }

  pub claim_adds : (x : ℕ) (said : Reply) (c : Claim) → said ≡ reply.Claimed c → Asked stance (ask.Claim x) said old now → Adds old now [] (claimed_in c) []
  claim_adds x said c is a =
      let t = claim_told x said c is a in
      let more = adds_entries old a.new now a.own in
      record {
        told_so = more.told_so ∙ ap (λ (l : List Told). told_of old ++ l) t.told;
        claimed_so = more.claimed_so ∙ ap (λ (l : List ClaimedTask). claimed_of old ++ l) t.claimed;
        heard_so = more.heard_so ∙ ap (λ (l : List (List ℕ)). lines old ++ l) t.heard;
      }

  pub answer_adds : (line : List ℕ) (said : Reply) (r : Result Heard TakeFault) → said ≡ reply.Heard r → (a : Asked stance (ask.Answer line) said old now)
      → (more : List Told) × IsToldOf line r more × Adds old now more [] (heard_of line r)
  answer_adds line said r is a =
      let t = answer_at stance a.opening a.before (kept_fault a.before) line r a.new (subst (λ (y : Reply). Says stance a.opening a.before (ask.Answer line) y a.new) is a.says) in
      let more = adds_entries old a.new now a.own in (
        t.more,
        t.of_line,
        record {
          told_so = more.told_so ∙ ap (λ (l : List Told). told_of old ++ l) t.told;
          claimed_so = more.claimed_so ∙ ap (λ (l : List ClaimedTask). claimed_of old ++ l) t.claimed;
          heard_so = more.heard_so ∙ ap (λ (l : List (List ℕ)). lines old ++ l) t.heard;
        },
      )

  pub inputs_adds : (said : Reply) (i : Inputs) → said ≡ reply.Inputs i → Asked stance ask.Inputs said old now → Adds old now [] [] []
  inputs_adds said i is a =
      let none = inputs_none stance a.opening a.before (kept_fault a.before) i a.new (subst (λ (y : Reply). Says stance a.opening a.before ask.Inputs y a.new) is a.says) in
      adds_nothing old a.new now a.own (subst IsSilent (sym none) none_silent)

  pub halt_adds : (said : Reply) → Asked stance ask.Halt said old now → Adds old now [] [] []
  halt_adds said a = adds_nothing old a.new now a.own (halt_silent stance a.opening a.before (kept_fault a.before) said a.new a.says)

-- what is told where this is added
pub told_added : (told : List Told) (e : Event) (r : Result Taken TakeFault) → told ++ told_if_any e r ≡ added_if (is_told r) (told_as e r) told
told_added told e r = by (is_told r)
  where
    by : (b : Bool) → told ++ added_if b (told_as e r) [] ≡ added_if b (told_as e r) told
    by true = refl
    by false = append-nil told

pub told_same : {old now : List Entry} {claimed : List ClaimedTask} {heard : List (List ℕ)} → Adds old now [] claimed heard → told_of now ≡ told_of old
told_same {old = old} a = a.told_so ∙ append-nil (told_of old)

pub claims_same : {old now : List Entry} {told : List Told} {heard : List (List ℕ)} → Adds old now told [] heard → claimed_of now ≡ claimed_of old
claims_same {old = old} a = a.claimed_so ∙ append-nil (claimed_of old)

pub lines_same : {old now : List Entry} {told : List Told} {claimed : List ClaimedTask} → Adds old now told claimed [] → lines now ≡ lines old
lines_same {old = old} a = a.heard_so ∙ append-nil (lines old)

pub told_take : {old now : List Entry} {claimed : List ClaimedTask} {heard : List (List ℕ)} (e : Event) (r : Result Taken TakeFault) → Adds old now (told_if_any e r) claimed heard
    → told_of now ≡ added_if (is_told r) (told_as e r) (told_of old)
told_take {old = old} e r a = a.told_so ∙ told_added (told_of old) e r

pub claim_added : {old now : List Entry} {told : List Told} {heard : List (List ℕ)} (x : ℕ) (c : Claim) → IsOf x c → Adds old now told (claimed_in c) heard
    → AddsClaim x c (Some (claimed_of old)) (Some (claimed_of now))
claim_added x c own a = record { told = a.claimed_so; own = λ some. own }

-- what is asked for of a task is no grant
pub task_plain : (e : Event) → is_of_task e ≡ true → is_grant e ≡ false
task_plain (Output task stream place bytes) is = refl
task_plain (Exited task code) is = refl
task_plain (Lost task why) is = refl
task_plain (Start script agents) is = refl
task_plain (Granted request executor) is = absurd (cc)
task_plain (DecidedEvent request proceed name) is = refl

-- What each call of a gate adds to what it tells.
module _ {B T : Type 0} (stance : T → Stance) (opening : B → Parts T) (v w : Known Entry B) where
  abbrev answers : B → List Entry → Ask → Reply → List Entry → Type 0
  answers base history a r new = Says stance (opening base) history a r new

  abbrev had : List Entry
  had = entries_of v.numbers v.seen

  abbrev has_now : List Entry
  has_now = entries_of w.numbers w.seen

  nothing_more : (call : GateCall) (c : WasCalled answers v call w) → c.new ≡ [] → Adds had has_now [] [] []
  nothing_more call c none = adds_nothing had c.new has_now c.own (subst IsSilent (sym none) none_silent)

  abbrev pub called_claim : (x : ℕ) (r : Claim) → WasCalled answers v (gate_call.Claim x r) w → Asked stance (ask.Claim x) (reply.Claimed r) had has_now
  called_claim x r c = record { opening = opening c.base; before = entries c.before; new = c.new; says = c.answered; own = c.own }

  pub claim_called : (x : ℕ) (r : Claim) → WasCalled answers v (gate_call.Claim x r) w → Adds had has_now [] (claimed_in r) []
  claim_called x r c = claim_adds x (reply.Claimed r) r refl (called_claim x r c)

  pub claim_is : (x : ℕ) (r : Claim) (c : WasCalled answers v (gate_call.Claim x r) w) → TellsClaim x r c.new
  claim_is x r c = claim_told x (reply.Claimed r) r refl (called_claim x r c)

  pub inputs_called : (there : Inputs) → WasCalled answers v (gate_call.Inputs there) w → Adds had has_now [] [] []
  inputs_called there c = inputs_adds (reply.Inputs there) there refl (record { opening = opening c.base; before = entries c.before; new = c.new; says = c.answered; own = c.own })

  pub halt_called : WasCalled answers v gate_call.Halt w → Adds had has_now [] [] []
  halt_called c = halt_adds reply.Halted (record { opening = opening c.base; before = entries c.before; new = c.new; says = c.answered; own = c.own })

  pub report_called : (e : Event) (r : Result Taken TakeFault) → WasCalled answers v (gate_call.Report e r) w → Adds had has_now (told_if_any e r) [] []
  report_called e r c = by c.answered
    where
      by : AnswersCall (answers c.base) (entries c.before) (gate_call.Report e r) c.new → Adds had has_now (told_if_any e r) [] []
      by (inl said) = take_adds e (reply.Taken r) r (task_plain e said.0) refl (record { opening = opening c.base; before = entries c.before; new = c.new; says = said.1; own = c.own })
      by (inr none) = subst (λ (x : Result Taken TakeFault). Adds had has_now (told_if_any e x) [] []) (sym none.1) (nothing_more (gate_call.Report e r) c none.2)

  pub answer_called : (line : List ℕ) (r : Result Heard TakeFault) → WasCalled answers v (gate_call.Answer line r) w → (more : List Told) × IsToldOf line r more × Adds had has_now more [] (heard_of line r)
  answer_called line r c = by c.answered
    where
      by : AnswersCall (answers c.base) (entries c.before) (gate_call.Answer line r) c.new → (more : List Told) × IsToldOf line r more × Adds had has_now more [] (heard_of line r)
      by (inl said) = answer_adds line (reply.Heard r) r refl (record { opening = opening c.base; before = entries c.before; new = c.new; says = said; own = c.own })
      by (inr none) = subst (λ (x : Result Heard TakeFault). (more : List Told) × IsToldOf line x more × Adds had has_now more [] (heard_of line x)) (sym none.0) ([], refl, nothing_more (gate_call.Answer line r) c none.1)

-- a halt is answered with that
halted_at : {T : Type 0} (stance : T → Stance) (opening : Parts T) (h : List Entry) (f : Option TakeFault) (r : Reply) (new : List Entry) → SaysAt stance opening h f ask.Halt r new → r ≡ reply.Halted
halted_at stance opening h (Some f) r new says = says.0
halted_at stance opening h None reply.Halted new says = refl
halted_at stance opening h None (reply.Taken r) new says = absurd says
halted_at stance opening h None (reply.Claimed c) new says = absurd says
halted_at stance opening h None (reply.Inputs i) new says = absurd says
halted_at stance opening h None (reply.Heard r) new says = absurd says
halted_at stance opening h None (reply.Progress p) new says = absurd says

pub halt_replies : {T : Type 0} {stance : T → Stance} {old now : List Entry} (r : Reply) → Asked stance ask.Halt r old now → r ≡ reply.Halted
halt_replies {stance = stance} r a = halted_at stance a.opening a.before (kept_fault a.before) r a.new a.says
