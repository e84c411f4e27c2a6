-- Laws of claims: which task one gives, and that the claims of a legal history name different tasks.
use Rattle.std.proofs.Common.{◌≡◌, ℕ, Bool, true, false, List, [], ◌∷◌, ◌++◌, Option, Some, None, Result, Ok, Err, refl, sym, ap, ◌∙◌, subst, arith, append-nil, inl, inr, ◌⊎◌}
use Rattle.std.specs.Prelude.{nat_eq, ◌&&◌, ◌||◌, not, if◌then◌else◌}
use Rattle.std.specs.List.{IsDistinct, AllByRecursion as AllAre}
use Rattle.model_run.specs.declared.event.Event.{Event}
use Rattle.model_run.specs.declared.request.OpenRequest.{OpenRequest}
use Rattle.model_run.specs.declared.request.Request.{Request}
use Rattle.model_run.specs.declared.request.Request.TheVariants.{Node as NodeRequest, Task as TaskRequest, Input as InputRequest}
use Rattle.model_run.specs.declared.taken.Taken.{Taken}
use Rattle.model_run.specs.declared.taken.Taken.TheVariants.{Accepted, NotOpen, WrongPlace, Finished}
use Rattle.task_host.specs.declared.order.Order.{Order}
use Rattle.settle_laws.specs.Stances.{Stance}
use Rattle.locked_build.specs.Lower.build_core.Builds.{Parts}
use Rattle.program_lock.specs.Legal.{IsRun, IsLegal}
use Rattle.journal_core.specs.declared.faults.TakeFault.{TakeFault}
use Rattle.journal_core.specs.declared.faults.TakeFault.TheVariants.{Memory, Disk, Full, Stopped}
use Rattle.agent_worker.specs.declared.gate.Heard.{Heard}
use Rattle.agent_worker.specs.declared.gate.Heard.TheVariants.{Decided, Skipped}
use Rattle.agent_worker.specs.declared.gate.Claim.{Claim}
use Rattle.agent_worker.specs.declared.gate.Claim.TheVariants as claim
use Rattle.agent_worker.specs.Gate.{Claimed as ClaimedTask}
use Rattle.locked_build.specs.declared.ask.Ask.{Ask}
use Rattle.locked_build.specs.declared.ask.Ask.TheVariants as ask
use Rattle.locked_build.specs.declared.ask.Reply.{Reply}
use Rattle.locked_build.specs.declared.ask.Reply.TheVariants as reply
use Rattle.locked_build.specs.declared.ask.Entry.{Entry}
use Rattle.locked_build.specs.declared.ask.Entry.TheVariants.{Took, Claimed, Line, Failed}
use Rattle.locked_build.specs.Claims.{is_task_of, is_free, first_free, order_as, ClaimSays}
use Rattle.locked_build.specs.Grants.{noted, Grants, TakeSays}
use Rattle.locked_build.specs.Hearing.{AnswerSays}
use Rattle.locked_build.specs.Histories.{is_claimed, kept_fault}
use Rattle.locked_build.specs.Says.{Says, SaysAt, Answers}
use Rattle.member_turns.specs.Tales.{claimed_of}
use Rattle.member_turns.specs.Turning.{tasks_of}
use Rattle.member_turns.proofs.PartLemmas.{all_append}
use Rattle.member_turns.proofs.TaleLemmas.{claimed-append, grants_silent}

some_same : (q r : OpenRequest) → Some q ≡ Some r → q ≡ r
some_same q r e = cc

none_some : (r : OpenRequest) → None ≡ Some r → ⊥
none_some r e = cc

free_found : (h : List Entry) (x : ℕ) (rs : List OpenRequest) (r : OpenRequest) → first_free h x rs ≡ Some r → is_free h x r ≡ true
free_found h x [] r is = absurd (none_some r is)
free_found h x (q ∷ qs) r is = on (free_found h x qs r) (is_free h x q) refl is
  where
    on : (first_free h x qs ≡ Some r → is_free h x r ≡ true) → (b : Bool) → is_free h x q ≡ b → (if b then Some q else first_free h x qs) ≡ Some r → is_free h x r ≡ true
    on later true free found = subst (λ (o : OpenRequest). is_free h x o ≡ true) (some_same q r found) free
    on later false free found = later found

both_true : (a b : Bool) → (a && not b) ≡ true → (a ≡ true) × (b ≡ false)
both_true true true is = absurd (cc)
both_true true false is = (refl, refl)
both_true false b is = absurd (cc)

order_same : (q r : Order) → Some q ≡ Some r → q ≡ r
order_same q r e = cc

no_order : (r : Order) → None ≡ Some r → ⊥
no_order r e = cc

same_number : (a b : ℕ) → nat_eq a b ≡ true → a ≡ b
same_number a b is = grind (arith, is)

order_of : (n x : ℕ) (q : Request) (order : Order) → is_task_of x q ≡ true → order_as n q ≡ Some order → (order.executor ≡ x) × (order.task ≡ n)
order_of n x (TaskRequest executor workspace folder env script status keep_out taken out) order task is =
    let same = order_same _ order is in
    (sym (ap (λ (o : Order). o.executor) same) ∙ same_number executor x task, sym (ap (λ (o : Order). o.task) same))
order_of n x (NodeRequest label) order task is = absurd (no_order order is)
order_of n x (InputRequest id) order task is = absurd (no_order order is)

-- The order of a claim: of the executor that asked, and of a task that no entry claimed.
pub free_order : (h : List Entry) (x : ℕ) (rs : List OpenRequest) (r : OpenRequest) (order : Order) → first_free h x rs ≡ Some r → order_as r.number r.request ≡ Some order
    → (order.executor ≡ x) × (order.task ≡ r.number)
free_order h x rs r order found is = order_of r.number x r.request order (both_true (is_task_of x r.request) (is_claimed r.number h) (free_found h x rs r found)).0 is

pub free_unclaimed : (h : List Entry) (x : ℕ) (rs : List OpenRequest) (r : OpenRequest) → first_free h x rs ≡ Some r → is_claimed r.number h ≡ false
free_unclaimed h x rs r found = (both_true (is_task_of x r.request) (is_claimed r.number h) (free_found h x rs r found)).1

-- entries that claim nothing, or one task that no entry before them claimed
abbrev ClaimsOne : List Entry → List Entry → Type 0
ClaimsOne h new = (claimed_of new ≡ []) ⊎ ((c : ClaimedTask) × (claimed_of new ≡ c ∷ []) × (is_claimed c.task h ≡ false))

grants_claim : {T : Type 0} {stance : T → Stance} {b : Parts T} {es : List Entry} → Grants stance b es → claimed_of es ≡ []
grants_claim g = (grants_silent g).claimed

noted_claim : (e : Event) (fault : TakeFault) → claimed_of (noted e (Err fault)) ≡ []
noted_claim e Memory = refl
noted_claim e Disk = refl
noted_claim e (Full len add) = refl
noted_claim e Stopped = refl

take_claims : {T : Type 0} (stance : T → Stance) (b : Parts T) (e : Event) (r : Result Taken TakeFault) (new : List Entry) → TakeSays stance b e r new → claimed_of new ≡ []
take_claims stance b e (Ok Accepted) new says = ap claimed_of says.4 ∙ grants_claim says.3
take_claims stance b e (Ok NotOpen) new says = ap claimed_of says.1
take_claims stance b e (Ok (WrongPlace kept)) new says = ap claimed_of says.1
take_claims stance b e (Ok Finished) new says = ap claimed_of says.1
take_claims stance b e (Err fault) new says = ap claimed_of says.1 ∙ noted_claim e fault

answer_claims : {T : Type 0} (stance : T → Stance) (b : Parts T) (line : List ℕ) (r : Result Heard TakeFault) (new : List Entry) → AnswerSays stance b line r new → claimed_of new ≡ []
answer_claims stance b line (Ok (Decided request)) new says = ap claimed_of says.4 ∙ take_claims stance b says.0 (Ok Accepted) says.1 says.3
answer_claims stance b line (Ok Skipped) new says = ap claimed_of says.1
answer_claims stance b line (Err Memory) new says = ap claimed_of says
answer_claims stance b line (Err Disk) new says = take_claims stance b says.1 (Err Disk) new says.3
answer_claims stance b line (Err (Full len add)) new says = take_claims stance b says.1 (Err (Full len add)) new says.3
answer_claims stance b line (Err Stopped) new says = take_claims stance b says.1 (Err Stopped) new says.3

claim_claims : (rs : List OpenRequest) (h : List Entry) (x : ℕ) (c : Claim) (new : List Entry) → ClaimSays rs h x c new → ClaimsOne h new
claim_claims rs h x (claim.Order order) new says = inr (
  record { executor = x; task = says.0.number; keep_out = order.keep_out; kept_log = order.kept_log; kept_out = order.kept_out },
  ap claimed_of says.3,
  free_unclaimed h x rs says.0 says.1,
)
claim_claims rs h x (claim.Idle busy) new says = inl (ap claimed_of says.3)
claim_claims rs h x claim.Rest new says = inl (ap claimed_of says.2)
claim_claims rs h x claim.Stopped new says = absurd says
claim_claims rs h x claim.Memory new says = inl (ap claimed_of says)

module _ {T : Type 0} (stance : T → Stance) (opening : Parts T) (h : List Entry) where
  answers_claim : (a : Ask) (r : Reply) (new : List Entry) → Answers stance opening h a r new → ClaimsOne h new
  answers_claim (ask.Take e) (reply.Taken r) new says = inl (take_claims stance says.0 e r new says.2.1)
  answers_claim (ask.Take e) (reply.Claimed c) new says = absurd says
  answers_claim (ask.Take e) (reply.Inputs i) new says = absurd says
  answers_claim (ask.Take e) (reply.Heard r) new says = absurd says
  answers_claim (ask.Take e) (reply.Progress p) new says = absurd says
  answers_claim (ask.Take e) reply.Halted new says = absurd says
  answers_claim (ask.Claim x) (reply.Taken r) new says = absurd says
  answers_claim (ask.Claim x) (reply.Claimed c) new says = claim_claims says.0.shared.requests h x c new says.2
  answers_claim (ask.Claim x) (reply.Inputs i) new says = absurd says
  answers_claim (ask.Claim x) (reply.Heard r) new says = absurd says
  answers_claim (ask.Claim x) (reply.Progress p) new says = absurd says
  answers_claim (ask.Claim x) reply.Halted new says = absurd says
  answers_claim ask.Inputs (reply.Taken r) new says = absurd says
  answers_claim ask.Inputs (reply.Claimed c) new says = absurd says
  answers_claim ask.Inputs (reply.Inputs i) new says = inl (ap claimed_of says.1)
  answers_claim ask.Inputs (reply.Heard r) new says = absurd says
  answers_claim ask.Inputs (reply.Progress p) new says = absurd says
  answers_claim ask.Inputs reply.Halted new says = absurd says
  answers_claim (ask.Answer line) (reply.Taken r) new says = absurd says
  answers_claim (ask.Answer line) (reply.Claimed c) new says = absurd says
  answers_claim (ask.Answer line) (reply.Inputs i) new says = absurd says
  answers_claim (ask.Answer line) (reply.Heard r) new says = inl (answer_claims stance says.0 line r new says.2.1)
  answers_claim (ask.Answer line) (reply.Progress p) new says = absurd says
  answers_claim (ask.Answer line) reply.Halted new says = absurd says
  answers_claim ask.Look (reply.Taken r) new says = absurd says
  answers_claim ask.Look (reply.Claimed c) new says = absurd says
  answers_claim ask.Look (reply.Inputs i) new says = absurd says
  answers_claim ask.Look (reply.Heard r) new says = absurd says
  answers_claim ask.Look (reply.Progress p) new says = inl (ap claimed_of says.1)
  answers_claim ask.Look reply.Halted new says = absurd says
  answers_claim ask.Halt (reply.Taken r) new says = absurd says
  answers_claim ask.Halt (reply.Claimed c) new says = absurd says
  answers_claim ask.Halt (reply.Inputs i) new says = absurd says
  answers_claim ask.Halt (reply.Heard r) new says = absurd says
  answers_claim ask.Halt (reply.Progress p) new says = absurd says
  answers_claim ask.Halt reply.Halted new says = inl (ap claimed_of says)

  says_claim : (f : Option TakeFault) (a : Ask) (r : Reply) (new : List Entry) → SaysAt stance opening h f a r new → ClaimsOne h new
  says_claim (Some f) a r new says = inl (ap claimed_of says.1)
  says_claim None a r new says = answers_claim a r new says

either_false : (a b : Bool) → (a || b) ≡ false → (a ≡ false) × (b ≡ false)
either_false true b is = absurd (cc)
either_false false b is = (refl, is)

unclaimed_differs : (t : ℕ) (h : List Entry) → is_claimed t h ≡ false → AllAre (λ y. nat_eq y t ≡ false) (tasks_of (claimed_of h))
unclaimed_differs t [] is = tt
unclaimed_differs t (Took e ∷ h) is = unclaimed_differs t h is
unclaimed_differs t (Claimed executor task keep_out kept_log kept_out ∷ h) is = let both = either_false (nat_eq task t) (is_claimed t h) is in (both.0, unclaimed_differs t h both.1)
unclaimed_differs t (Line line ∷ h) is = unclaimed_differs t h is
unclaimed_differs t (Failed fault event ∷ h) is = unclaimed_differs t h is

one_more_differs : (xs : List ℕ) (t : ℕ) → IsDistinct nat_eq xs → AllAre (λ y. nat_eq y t ≡ false) xs → IsDistinct nat_eq (xs ++ t ∷ [])
unfolding IsDistinct
one_more_differs [] t once new = (tt, tt)
one_more_differs (x ∷ xs) t once new = (all_append (λ y. nat_eq x y ≡ false) xs (t ∷ []) once.0 (new.0, tt), one_more_differs xs t once.1 new.1)

pub tasks-append : (xs ys : List ClaimedTask) → tasks_of (xs ++ ys) ≡ tasks_of xs ++ tasks_of ys
tasks-append [] ys = refl
tasks-append (c ∷ xs) ys = ap (λ (l : List ℕ). c.task ∷ l) (tasks-append xs ys)

-- the tasks that a history claims
abbrev claims_in : List Entry → List ℕ
claims_in h = tasks_of (claimed_of h)

claims-append : (h new : List Entry) → claims_in (h ++ new) ≡ claims_in h ++ claims_in new
claims-append h new = ap tasks_of (claimed-append h new) ∙ tasks-append (claimed_of h) (claimed_of new)

step_differs : (h new : List Entry) → IsDistinct nat_eq (claims_in h) → ClaimsOne h new → IsDistinct nat_eq (claims_in (h ++ new))
step_differs h new once (inl none) = subst (IsDistinct nat_eq) (sym (claims-append h new ∙ ap (λ (c : List ClaimedTask). claims_in h ++ tasks_of c) none ∙ append-nil (claims_in h))) once
step_differs h new once (inr one) =
    subst (IsDistinct nat_eq) (sym (claims-append h new ∙ ap (λ (c : List ClaimedTask). claims_in h ++ tasks_of c) one.1)) (one_more_differs (claims_in h) one.0.task once (unclaimed_differs one.0.task h one.2))

module _ {B T : Type 0} (stance : T → Stance) (opening : B → Parts T) (base : B) where
  run_differs : (h : List Entry) (asked : List (Ask × Reply × List Entry)) (to : List Entry) → IsRun (λ b history x y new. Says stance (opening b) history x y new) base h asked to
      → IsDistinct nat_eq (claims_in h) → IsDistinct nat_eq (claims_in to)
  run_differs h [] to run once = subst (λ (es : List Entry). IsDistinct nat_eq (claims_in es)) run once
  run_differs h (x ∷ xs) to run once = run_differs (h ++ x.2) xs to run.1 (step_differs h x.2 once (says_claim stance (opening base) h (kept_fault h) x.0 x.1 x.2 run.0))

  -- The claims of a legal history name different tasks.
  pub claims_differ : (h : List Entry) → IsLegal (λ b history x y new. Says stance (opening b) history x y new) base h → IsDistinct nat_eq (tasks_of (claimed_of h))
  unfolding IsDistinct
  claims_differ h legal = run_differs [] legal.0 h legal.1 tt
