-- Tasks in the worlds of one build: before a life, in it, and at its end.
use Rattle.std.proofs.Common.{◌≡◌, ◌≤◌, ◌<◌, ◌∙◌, ◌⊎◌, inl, inr, ℕ, ℤ, true, false, List, [], ◌∷◌, ◌++◌, Option, Some, None, refl, sym, subst, append_assoc, append-nil, arith}
use Rattle.model_syntax.specs.Nodes.{Node}
use Rattle.model_run.specs.declared.event.Event.{Event}
use Rattle.model_run.specs.declared.request.Request.{Request}
use Rattle.model_run.specs.declared.request.OpenRequest.{OpenRequest}
use Rattle.model_run.specs.declared.taken.Taken.TheVariants.{Accepted, NotOpen}
use Rattle.model_run.specs.declared.event.Event.TheVariants.{Exited}
use Rattle.model_run.specs.Below.{Small}
use Rattle.model_run.specs.Fitting.{Some_of}
use Rattle.model_run.specs.Requests.{IsTaskOf}
use Rattle.model_run.specs.State.{Setting}
use Rattle.model_run.specs.Taking.{accepted_if, is_task, request_of}
use Rattle.model_run.specs.Terms.{term}
use Rattle.model_run.specs.World.{Build, answer_to, world_in}
use Rattle.model_run.proofs.LaterWorlds.{accepted_answer, if_accepted, open_of}
use Rattle.model_run.proofs.RequestLaws.{some_weaker}
use Rattle.model_run.proofs.RequestWorlds.{worlds_continue, request_below, never_again, same_executor, task_came, closes_request}
use Rattle.launch_laws.specs.Fitting.{IsOpen, WasTask}
use Rattle.launch_laws.specs.ManyTurns.{AllTaken, InLife}

heads_same : {A : Type 0} (x y : A) (xs ys : List A) → x ∷ xs ≡ y ∷ ys → x ≡ y
heads_same x y xs ys is = cc

tails_same : {A : Type 0} (x y : A) (xs ys : List A) → x ∷ xs ≡ y ∷ ys → xs ≡ ys
tails_same x y xs ys is = cc

cons_same : {A : Type 0} {x y : A} {xs ys : List A} → x ≡ y → xs ≡ ys → x ∷ xs ≡ y ∷ ys
cons_same one two = cc

-- of two fronts of one list one is a front of the other
longer_of : {A : Type 0} (xs us ys vs : List A) → xs ++ us ≡ ys ++ vs → ((more : List A) × (ys ≡ xs ++ more)) ⊎ ((more : List A) × (xs ≡ ys ++ more))
longer_of [] us ys vs is = inl (ys, refl)
longer_of (x ∷ xs) us [] vs is = inr (x ∷ xs, refl)
longer_of (x ∷ xs) us (y ∷ ys) vs is = on (longer_of xs us ys vs (tails_same x y (xs ++ us) (ys ++ vs) is))
  where
    same : x ≡ y
    same = heads_same x y (xs ++ us) (ys ++ vs) is

    on : ((more : List _) × (ys ≡ xs ++ more)) ⊎ ((more : List _) × (xs ≡ ys ++ more)) → ((more : List _) × (y ∷ ys ≡ x ∷ xs ++ more)) ⊎ ((more : List _) × (x ∷ xs ≡ y ∷ ys ++ more))
    on (inl m) = inl (m.0, cons_same (sym same) m.1)
    on (inr m) = inr (m.0, cons_same same m.1)

-- a task of an executor is open
pub task_open : (setting : Setting) (events : List Event) (x t : ℕ) → IsTaskOf x t (world_in setting events).shared → IsOpen setting events t
task_open setting events x t is = some_weaker _ _ (λ r h. h.0) (world_in setting events).shared.requests is

found_open : (rs : List OpenRequest) (t : ℕ) (o : Option Request) → request_of rs t ≡ o → is_task o ≡ true → Some_of (λ r. r.number ≡ t) rs
found_open rs t None is task = (let bad : false ≡ true = task in absurd (cc))
found_open rs t (Some q) is task = open_of t rs q is

-- an exit that is accepted is of an open task
exited_open : (setting : Setting) (events : List Event) (t : ℕ) (code : ℤ) → answer_to setting (world_in setting events) (Exited t code) ≡ Accepted → IsOpen setting events t
exited_open setting events t code is =
    let b : Build = world_in setting events in
    let task = accepted_answer b.ended b.started (accepted_if (is_task (request_of b.shared.requests t))) NotOpen (λ no. absurd (cc)) is in
    found_open b.shared.requests t (request_of b.shared.requests t) refl (if_accepted _ task)

module _ (setting : Setting) (p : Node) (e : setting.script ≡ term 0 p) (small : Small setting) where
  -- the numbers that are given rise
  next_later : (events more : List Event) → (world_in setting events).started ≡ true → (world_in setting events).shared.next_request ≤ (world_in setting (events ++ more)).shared.next_request
  next_later events more begun = (worlds_continue setting p e small events more begun).requests.next

  -- a task of before has a number below the next
  pub was_below : (events : List Event) (x t : ℕ) → WasTask setting events x t → t < (world_in setting events).shared.next_request
  was_below events x t was =
      let here : t < (world_in setting was.front).shared.next_request = request_below setting p e small was.front t (task_open setting was.front x t was.task_of) in
      let later : (world_in setting was.front).shared.next_request ≤ (world_in setting events).shared.next_request =
      subst (λ (es : List Event). (world_in setting was.front).shared.next_request ≤ (world_in setting es).shared.next_request) (sym was.is) (next_later was.front was.rest was.begun) in
      omega (arith, here, later)

  module _ (begun taken : List Event) (started : (world_in setting begun).started ≡ true) where
    -- a task of before the life that is not open at its beginning is not open at its end
    pub no_reopen : (x t : ℕ) → WasTask setting begun x t → ¬ (IsOpen setting begun t) → ¬ (IsOpen setting (begun ++ taken) t)
    no_reopen x t was closed = never_again setting p e small begun taken started t (was_below begun x t was) closed

    -- a task of before the life that is open in it was open at its beginning
    pub open_then : (x y t : ℕ) → WasTask setting begun x t → InLife setting begun taken y t → IsOpen setting begun t
    open_then x y t was during = task_open setting begun y t (task_came setting p e small begun during.front started y t (was_below begun x t was) during.task_of)

  -- where a task was closed it is closed at the end of the life
  closed_later : (before taken : List Event) (t : ℕ) → t < (world_in setting before).shared.next_request → ¬ (IsOpen setting before t) → AllTaken setting before taken → ¬ (IsOpen setting (before ++ taken) t)
  closed_later before [] t below closed all = subst (λ (es : List Event). ¬ (IsOpen setting es t)) (sym (append-nil before)) closed
  closed_later before (x ∷ taken) t below closed all = never_again setting p e small before (x ∷ taken) all.0.begun t below closed

  -- a task whose exit was accepted in the life is not open at its end
  pub exited_over : (before taken : List Event) (t : ℕ) (code : ℤ) → AllTaken setting before taken → Some_of (λ x. x ≡ Exited t code) taken → ¬ (IsOpen setting (before ++ taken) t)
  exited_over before [] t code all there = absurd there
  exited_over before (x ∷ taken) t code all (inl is) =
      let accepted : answer_to setting (world_in setting before) (Exited t code) ≡ Accepted = subst (λ (y : Event). answer_to setting (world_in setting before) y ≡ Accepted) is all.0.accepted in
      let here : t < (world_in setting before).shared.next_request = request_below setting p e small before t (exited_open setting before t code accepted) in
      let later : (world_in setting before).shared.next_request ≤ (world_in setting (before ++ x ∷ [])).shared.next_request = next_later before (x ∷ []) all.0.begun in
      let closed : ¬ (IsOpen setting (before ++ x ∷ []) t) = subst (λ (y : Event). ¬ (IsOpen setting (before ++ y ∷ []) t)) (sym is) (closes_request setting p e small before (Exited t code) t refl accepted) in
      subst (λ (es : List Event). ¬ (IsOpen setting es t)) (append_assoc before (x ∷ []) taken) (closed_later (before ++ x ∷ []) taken t (omega (arith, here, later)) closed all.1)
  exited_over before (x ∷ taken) t code all (inr there) =
      subst (λ (es : List Event). ¬ (IsOpen setting es t)) (append_assoc before (x ∷ []) taken) (exited_over (before ++ x ∷ []) taken t code all.1 there)

  -- two executors have no task in common, before a life and in it
  pub one_executor : (events : List Event) (x y t : ℕ) → WasTask setting events x t → WasTask setting events y t → x ≡ y
  one_executor events x y t one two = by (longer_of one.front one.rest two.front two.rest (sym one.is ∙ two.is))
    where
      by : ((more : List Event) × (two.front ≡ one.front ++ more)) ⊎ ((more : List Event) × (one.front ≡ two.front ++ more)) → x ≡ y
      by (inl m) = same_executor setting p e small one.front m.0 one.begun x y t one.task_of (subst (λ (es : List Event). IsTaskOf y t (world_in setting es).shared) m.1 two.task_of)
      by (inr m) = sym (same_executor setting p e small two.front m.0 two.begun y x t two.task_of (subst (λ (es : List Event). IsTaskOf x t (world_in setting es).shared) m.1 one.task_of))
