-- What the calls of the turns of a life were answered, over its whole history, and what that says of the events.
use Rattle.std.proofs.Common.{◌≡◌, ◌⊎◌, ◌∙◌, ◌<◌, inl, inr, ℕ, Bool, true, false, List, [], ◌∷◌, ◌++◌, Option, Some, None, Result, Ok, Err, refl, sym, ap, subst, append_assoc, append-nil, arith}
use Rattle.std.specs.Prelude.{if◌then◌else◌}
use Rattle.std.specs.List.{AllByRecursion as AllAre}
use Rattle.std.proofs.Math.Logic.{∥∥₁_elim, ∥∥₁_map, ∥∥₁_prop}
use Rattle.journal_core.specs.declared.faults.TakeFault.{TakeFault}
use Rattle.journal_core.specs.declared.faults.TakeFault.TheVariants.{Memory, Disk, Full, Stopped}
use Rattle.agent_worker.specs.declared.gate.Claim.TheVariants as claim
use Rattle.agent_worker.specs.declared.gate.Heard.{Heard}
use Rattle.agent_worker.specs.declared.gate.GateCall.{GateCall}
use Rattle.agent_worker.specs.declared.gate.GateCall.TheVariants.{Claim, Report, Inputs, Answer, Halt}
use Rattle.agent_worker.specs.declared.gate.Inputs.{Inputs as InputsSaid}
use Rattle.build_store.specs.Lower.build_core.Builds.{Parts}
use Rattle.build_requests.specs.Waiting.{waiting_inputs}
use Rattle.model_run.specs.declared.event.Event.{Event}
use Rattle.model_run.specs.declared.request.OpenRequest.{OpenRequest}
use Rattle.model_run.specs.Fitting.{Some_of}
use Rattle.model_run.specs.State.{Setting}
use Rattle.model_run.specs.World.{world_in}
use Rattle.build_store.specs.Lower.durable_build.Settings.{IsProper}
use Rattle.settle_laws.specs.Stances.{Stance}
use Rattle.task_host.specs.declared.order.Order.{Order}
use Rattle.member_turns.specs.Lower.locked_build.declared.ask.Ask.{Ask}
use Rattle.member_turns.specs.Lower.locked_build.declared.ask.Ask.TheVariants as ask
use Rattle.member_turns.specs.Lower.locked_build.declared.ask.Entry.{Entry}
use Rattle.member_turns.specs.Lower.locked_build.declared.ask.Entry.TheVariants.{Took, Claimed, Line, Failed}
use Rattle.member_turns.specs.Lower.locked_build.declared.ask.Reply.{Reply}
use Rattle.member_turns.specs.Lower.locked_build.declared.ask.Reply.TheVariants as reply
use Rattle.member_turns.specs.Lower.locked_build.Claims.{first_free, is_free, order_as, within_u32}
use Rattle.member_turns.specs.Lower.locked_build.Histories.{kept_fault, tooks}
use Rattle.member_turns.specs.Lower.locked_build.Says.{Answers, SaysAt, Says}
use Rattle.member_turns.proofs.Lower.locked_build.HistoryLaws.{kept_fault-append, no_fault, tooks-append}
use Rattle.member_turns.specs.Coming.{EachIs}
use Rattle.member_turns.specs.Orders.{AllAnswered, AnsweredIn}
use Rattle.member_turns.specs.Turns.{IsIn, Turn}
use Rattle.member_turns.specs.Waiting.{Waited}
use Rattle.build_life.specs.Telling.{HeardInTime, IsOrderOf, orders_in}
use Rattle.build_life.proofs.WalkLemmas.{ShowsAll, kept_first, requests_are, shows_shown}

-- what is known of each is known of all
pub all_known : {X : Type 0} (P : X → Type 0) (xs : List X) → AllAre (λ x. ∥ P x ∥₁) xs → ∥ AllAre P xs ∥₁
all_known P [] all = ∣ tt ∣₁
all_known P (x ∷ xs) all = ∥∥₁_elim all.0 ∥∥₁_prop (λ one. ∥∥₁_map (all_known P xs all.1) (λ more. (one, more)))

all_so : {X : Type 0} (P Q : X → Type 0) (xs : List X) → ((x : X) → P x → Q x) → AllAre P xs → AllAre Q xs
all_so P Q [] so all = tt
all_so P Q (x ∷ xs) so all = (so x all.0, all_so P Q xs so all.1)

-- the last of some calls is one of them
pub in_last : (calls : List GateCall) (call : GateCall) → IsIn call (calls ++ call ∷ [])
in_last [] call = inl refl
in_last (c ∷ calls) call = inr (in_last calls call)

-- a line that was refused
abbrev refused : TakeFault → Result Heard TakeFault
refused fault = Err fault

same_refused : (f g : TakeFault) → refused f ≡ refused g → f ≡ g
same_refused f g is = cc

stopped_order : (order : Order) → reply.Claimed (claim.Order order) ≡ reply.Claimed claim.Stopped → ⊥
stopped_order order is = cc

same_found : (q r : OpenRequest) → Some q ≡ Some r → q ≡ r
same_found q r e = cc

none_found : (r : OpenRequest) → None ≡ Some r → ⊥
none_found r e = cc

-- the first free task is one of the open requests
free_is_open : (P : OpenRequest → Type 0) (h : List Entry) (x : ℕ) (rs : List OpenRequest) (r : OpenRequest) → first_free h x rs ≡ Some r → P r → Some_of P rs
free_is_open P h x [] r is so = absurd (none_found r is)
free_is_open P h x (q ∷ qs) r is so = on (free_is_open P h x qs r) (is_free h x q) is
  where
    on : (first_free h x qs ≡ Some r → P r → Some_of P qs) → (b : Bool) → (if b then Some q else first_free h x qs) ≡ Some r → P q ⊎ Some_of P qs
    on later true found = inl (subst P (sym (same_found q r found)) so)
    on later false found = inr (later found so)

module _ {T : Type 0} (stance : T → Stance) (opening : Parts T) (history : List Entry) where
  abbrev Its : List Entry → Ask → Reply → List Entry → Type 0
  Its h a r new = Says stance opening h a r new

  -- what was said while no fault was kept
  said_calm : (h : List Entry) → kept_fault h ≡ None → (a : Ask) (r : Reply) (new : List Entry) → Says stance opening h a r new → Answers stance opening h a r new
  said_calm h none a r new says = subst (λ (f : Option TakeFault). SaysAt stance opening h f a r new) none says

  -- In a history that keeps no fault nobody halted, and no line was refused for a fault that is kept.
  module _ (calm : kept_fault history ≡ None) where
    none_within : (call : GateCall) (a : AnsweredIn Its history call) → (kept_fault a.0 ≡ None) × (kept_fault a.1 ≡ None)
    none_within call a =
        let both : kept_fault (a.0 ++ a.1) ≡ None = kept_first (a.0 ++ a.1) a.2 (ap kept_fault (append_assoc a.0 a.1 a.2 ∙ a.3) ∙ calm) in
        let first : kept_fault a.0 ≡ None = kept_first a.0 a.1 both in
        (first, sym (kept_fault-append a.0 a.1 first) ∙ both)

    pub no_halt : AnsweredIn Its history Halt → ⊥
    no_halt a = let none = none_within Halt a in no_fault Memory (ap kept_fault (sym (said_calm a.0 none.0 ask.Halt reply.Halted a.1 a.4)) ∙ none.1)

    pub no_refusal : (line : List ℕ) (fault : TakeFault) → (fault ≡ Memory → ⊥) → AnsweredIn Its history (Answer line (Err fault)) → ⊥
    no_refusal line Memory other a = other refl
    no_refusal line Disk other a = by a.4
      where
        by : Says stance opening a.0 (ask.Answer line) (reply.Heard (Err Disk)) a.1 ⊎ ((refused Disk ≡ refused Memory) × (a.1 ≡ [])) → ⊥
        by (inl says) = let none = none_within (Answer line (Err Disk)) a in let d = (said_calm a.0 none.0 (ask.Answer line) (reply.Heard (Err Disk)) a.1 says).2.1 in no_fault Disk (ap kept_fault (sym d.3.1) ∙ none.1)
        by (inr bad) = other (same_refused Disk Memory bad.0)
    no_refusal line (Full len add) other a = by a.4
      where
        by : Says stance opening a.0 (ask.Answer line) (reply.Heard (Err (Full len add))) a.1 ⊎ ((refused (Full len add) ≡ refused Memory) × (a.1 ≡ [])) → ⊥
        by (inl says) =
            let none = none_within (Answer line (Err (Full len add))) a in
            let d = (said_calm a.0 none.0 (ask.Answer line) (reply.Heard (Err (Full len add))) a.1 says).2.1 in no_fault (Full len add) (ap kept_fault (sym d.3.1) ∙ none.1)
        by (inr bad) = other (same_refused (Full len add) Memory bad.0)
    no_refusal line Stopped other a = by a.4
      where
        by : Says stance opening a.0 (ask.Answer line) (reply.Heard (Err Stopped)) a.1 ⊎ ((refused Stopped ≡ refused Memory) × (a.1 ≡ [])) → ⊥
        by (inl says) = let none = none_within (Answer line (Err Stopped)) a in (said_calm a.0 none.0 (ask.Answer line) (reply.Heard (Err Stopped)) a.1 says).2.1.3.0
        by (inr bad) = other (same_refused Stopped Memory bad.0)

  module _ (setting : Setting) (proper : IsProper setting) (begun : List Event) (opened : ShowsAll stance setting proper opening begun) where
    -- an order that was given
    order_at : (h new : List Entry) (f : Option TakeFault) (x : ℕ) (order : Order) → SaysAt stance opening h f (ask.Claim x) (reply.Claimed (claim.Order order)) new
        → ∥ Some_of (λ r. order_as r.number r.request ≡ Some order) (world_in setting (begun ++ tooks h)).shared.requests ∥₁
    order_at h new (Some fault) x order says = absurd (stopped_order order says.0)
    order_at h new None x order says =
        ∥∥₁_map says.1 (λ shown.
        let all = shows_shown stance setting proper opening says.0 begun (tooks h) opened shown in
        subst (Some_of (λ r. order_as r.number r.request ≡ Some order)) (sym (requests_are stance setting proper says.0 (begun ++ tooks h) all))
        (free_is_open (λ r. order_as r.number r.request ≡ Some order) h x says.0.shared.requests says.2.0 says.2.1 says.2.2))

    order_of : (x : ℕ) (order : Order) → AnsweredIn Its history (Claim x (claim.Order order)) → ∥ IsOrderOf setting begun (tooks history) order ∥₁
    order_of x order a = ∥∥₁_map (order_at a.0 a.1 (kept_fault a.0) x order a.4)
        (λ there. record { front = tooks a.0; rest = tooks (a.1 ++ a.2); is = ap tooks (sym a.3) ∙ tooks-append a.0 (a.1 ++ a.2); of_task = there })

    orders_of : (calls : List GateCall) → AllAnswered Its history calls → AllAre (λ o. ∥ IsOrderOf setting begun (tooks history) o ∥₁) (orders_in calls)
    orders_of [] all = tt
    orders_of (Claim executor (claim.Order order) ∷ calls) all = (order_of executor order (all (Claim executor (claim.Order order)) (inl refl)), orders_of calls (λ c there. all c (inr there)))
    orders_of (Claim executor (claim.Idle busy) ∷ calls) all = orders_of calls (λ c there. all c (inr there))
    orders_of (Claim executor claim.Rest ∷ calls) all = orders_of calls (λ c there. all c (inr there))
    orders_of (Claim executor claim.Stopped ∷ calls) all = orders_of calls (λ c there. all c (inr there))
    orders_of (Claim executor claim.Memory ∷ calls) all = orders_of calls (λ c there. all c (inr there))
    orders_of (Report event r ∷ calls) all = orders_of calls (λ c there. all c (inr there))
    orders_of (Inputs there ∷ calls) all = orders_of calls (λ c more. all c (inr more))
    orders_of (Answer line r ∷ calls) all = orders_of calls (λ c there. all c (inr there))
    orders_of (Halt ∷ calls) all = orders_of calls (λ c there. all c (inr there))

    pub turns_ordered : {H A : Type 0} (turns : List (Turn H A)) → AllAre (λ (turn : Turn H A). AllAnswered Its history turn.calls) turns → ∥ AllAre (λ (turn : Turn H A). AllAre (IsOrderOf setting begun (tooks history)) (orders_in turn.calls)) turns ∥₁
    turns_ordered {H} {A} turns all = all_known (λ (turn : Turn H A). AllAre (IsOrderOf setting begun (tooks history)) (orders_in turn.calls)) turns
        (all_so (λ (turn : Turn H A). AllAnswered Its history turn.calls) (λ (turn : Turn H A). ∥ AllAre (IsOrderOf setting begun (tooks history)) (orders_in turn.calls) ∥₁) turns
        (λ turn asked. all_known (IsOrderOf setting begun (tooks history)) (orders_in turn.calls) (orders_of turn.calls asked)) all)

    -- an input that was said to be open was open
    open_at : (h new : List Entry) (f : Option TakeFault) (there : InputsSaid) → SaysAt stance opening h f ask.Inputs (reply.Inputs there) new → 0 < there.waiting → ∥ 0 < waiting_inputs (world_in setting (begun ++ tooks h)).shared.requests ∥₁
    open_at h new (Some fault) there says some = absurd (nothing there.waiting (waiting_none there says.0) some)
      where
        nothing : (n : ℕ) → n ≡ 0 → 0 < n → ⊥
        nothing n is less = grind (arith, is, less)

        waiting_none : (t : InputsSaid) → reply.Inputs t ≡ reply.Inputs (record { waiting = 0; busy = 0 }) → t.waiting ≡ 0
        waiting_none t is = let same : t ≡ record { waiting = 0; busy = 0 } = cc in ap (λ (x : InputsSaid). x.waiting) same
    open_at h new None there says some =
        ∥∥₁_map says.0.1 (λ shown.
        let all = shows_shown stance setting proper opening says.0.0 begun (tooks h) opened shown in
        subst (λ (n : ℕ). 0 < n) (sym (ap waiting_inputs (requests_are stance setting proper says.0.0 (begun ++ tooks h) all)))
        (some_so there.waiting (waiting_inputs says.0.0.shared.requests) says.0.2.0 some))
      where
        some_so : (w n : ℕ) → w ≡ within_u32 n → 0 < w → 0 < n
        some_so w n is less = grind (arith, is, less)

    in_time_each : (before : List Entry) (entry : Entry) → Waited Its before entry → ∥ HeardInTime setting begun before entry ∥₁
    in_time_each before (Line line) waited = ∥∥₁_map (open_at waited.at waited.new (kept_fault waited.at) waited.there waited.said waited.open_then)
        (λ some. record { at = waited.at; later = waited.later; begins = waited.begins; no_line = waited.no_line; open_then = some })
    in_time_each before (Took event) waited = ∣ tt ∣₁
    in_time_each before (Claimed executor task keep_out kept_log kept_out) waited = ∣ tt ∣₁
    in_time_each before (Failed fault event) waited = ∣ tt ∣₁

    pub heard_in_time : (before es : List Entry) → EachIs (Waited Its) before es → ∥ EachIs (HeardInTime setting begun) before es ∥₁
    heard_in_time before [] each = ∣ tt ∣₁
    heard_in_time before (entry ∷ es) each = ∥∥₁_elim (in_time_each before entry each.0) ∥∥₁_prop (λ one. ∥∥₁_map (heard_in_time (before ++ entry ∷ []) es each.1) (λ more. (one, more)))
