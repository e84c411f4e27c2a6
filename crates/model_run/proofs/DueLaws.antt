-- A grant that is due is accepted, and where none is due no grant is.
use Rattle.std.proofs.Common.{arith, ◌≡◌, ◌≤◌, ◌<◌, ◌+◌, ◌∙◌, ap, refl, sym, subst, inl, inr, ℕ, zero, suc, Bool, true, false, List, [], ◌∷◌, ◌++◌, map, Option, Some, None}
use Rattle.std.specs.Prelude.{codes, nat_eq, not, ◌&&◌, find, option_map, if◌then◌else◌}
use Rattle.std.specs.List.{AllByRecursion as AllAre}
use Rattle.std.proofs.lemmas.Bool.{eqb-true, eqb-false}
use Rattle.serde_json.specs.Data.{Data, Items, no_items, item}
use Rattle.model_syntax.specs.Nodes.{Node}
use Rattle.model_run.specs.AgentsFile.{agent_executors, executors_from, site_of}
use Rattle.model_run.specs.AgentsMembers.{number_at, items_at}
use Rattle.model_run.specs.RunTypes.{Event, GrantedEvent, Taken, Accepted, NotOpen, Finished, Executor, Site, Held, Request, NodeRequest, TaskRequest, InputRequest, OpenRequest}
use Rattle.model_run.specs.Terms.{term}
use Rattle.model_run.specs.State.{Setting}
use Rattle.model_run.specs.Below.{Small}
use Rattle.model_run.specs.Fitting.{Rise, Distinct, Some_of}
use Rattle.model_run.specs.Grants.{executor_of, is_held, executor_fits, free_executor, executor_for}
use Rattle.model_run.specs.Requests.{numbers_of}
use Rattle.model_run.specs.Taking.{request_of, granted as grant_answer, may_get, accepted_if}
use Rattle.model_run.specs.World.{Build, standing, answer_to, next_grant, world_in}
use Rattle.model_run.proofs.Asking.{rise_behind}
use Rattle.model_run.proofs.GrantLaws.{IsGrant, grant_here, grant_later, NoGrant, none_fits, granted, not_granted}
use Rattle.model_run.proofs.LaterWorlds.{accepted_answer, accepted_grant, open_of, world_requests}
use Rattle.model_run.proofs.RequestLaws.{some_all, rise_from}

-- What a search finds.
same_number : (n : ℕ) → nat_eq n n ≡ true
same_number n = one (nat_eq n n) refl
  where
    one : (b : Bool) → nat_eq n n ≡ b → b ≡ true
    one true e = refl
    one false e = absurd (eqb-false _ _ e refl)

other_number : (n m : ℕ) → (n ≡ m → ⊥) → nat_eq n m ≡ false
other_number n m never = one (nat_eq n m) refl
  where
    one : (b : Bool) → nat_eq n m ≡ b → b ≡ false
    one true e = absurd (never (eqb-true _ _ e))
    one false e = refl

found_passes : (test : Executor → Bool) (xs : List Executor) (y : Executor) → find test xs ≡ Some y → test y ≡ true
found_passes test [] y e = absurd (cc)
found_passes test (x ∷ xs) y e = one (test x) refl e (found_passes test xs y)
  where
    one : (b : Bool) → test x ≡ b → (if b then Some x else find test xs) ≡ Some y → (find test xs ≡ Some y → test y ≡ true) → test y ≡ true
    one true t e more = let is : x ≡ y = cc in subst (λ z. test z ≡ true) is t
    one false t e more = more e

found_among : (test : Executor → Bool) (xs : List Executor) (y : Executor) → find test xs ≡ Some y → Some_of (λ z. z.number ≡ y.number) xs
found_among test [] y e = absurd (cc)
found_among test (x ∷ xs) y e = one (test x) e (found_among test xs y)
  where
    one : (b : Bool) → (if b then Some x else find test xs) ≡ Some y → (find test xs ≡ Some y → Some_of (λ z. z.number ≡ y.number) xs) → Some_of (λ z. z.number ≡ y.number) (x ∷ xs)
    one true e more = let is : x ≡ y = cc in inl (ap (λ (z : Executor). z.number) is)
    one false e more = inr (more e)

-- where executors have different numbers, one that is found is that of its number
found_by_number : (test : Executor → Bool) (xs : List Executor) → Distinct (map (λ x. x.number) xs) → (y : Executor) → find test xs ≡ Some y → find (λ x. nat_eq x.number y.number) xs ≡ Some y
found_by_number test [] d y e = absurd (cc)
found_by_number test (x ∷ xs) d y e = one (test x) e (found_by_number test xs d.1 y) (found_among test xs y)
  where
    apart : (n m : ℕ) (zs : List Executor) → AllAre (λ k. n ≡ k → ⊥) (map (λ z. z.number) zs) → Some_of (λ z. z.number ≡ m) zs → n ≡ m → ⊥
    apart n m [] all is e = absurd is
    apart n m (z ∷ zs) all (inl is) e = all.0 (e ∙ sym is)
    apart n m (z ∷ zs) all (inr is) e = apart n m zs all.1 is e

    one : (b : Bool) → (if b then Some x else find test xs) ≡ Some y → (find test xs ≡ Some y → find (λ z. nat_eq z.number y.number) xs ≡ Some y) → (find test xs ≡ Some y → Some_of (λ z. z.number ≡ y.number) xs) → (if nat_eq x.number y.number then Some x else find (λ z. nat_eq z.number y.number) xs) ≡ Some y
    one true e more among =
        let is : x ≡ y = cc in
        subst (λ (z : Executor). (if nat_eq x.number z.number then Some x else find (λ w. nat_eq w.number z.number) xs) ≡ Some z) is
        (ap (λ b. if b then Some x else find (λ w. nat_eq w.number x.number) xs) (same_number x.number))
    one false e more among = ap (λ b. if b then Some x else find (λ w. nat_eq w.number y.number) xs) (other_number x.number y.number (apart x.number y.number xs d.0 (among e))) ∙ more e

none_passes : (test : Executor → Bool) (n : ℕ) (xs : List Executor) (y : Executor) → find test xs ≡ None → find (λ x. nat_eq x.number n) xs ≡ Some y → test y ≡ false
none_passes test n [] y e f = absurd (cc)
none_passes test n (x ∷ xs) y e f = one (test x) refl e f (none_passes test n xs y)
  where
    two : (c : Bool) → test x ≡ false → (if c then Some x else find (λ z. nat_eq z.number n) xs) ≡ Some y → (find (λ z. nat_eq z.number n) xs ≡ Some y → test y ≡ false) → test y ≡ false
    two true t f more = let is : x ≡ y = cc in subst (λ z. test z ≡ false) is t
    two false t f more = more f

    one : (b : Bool) → test x ≡ b → (if b then Some x else find test xs) ≡ None → (if nat_eq x.number n then Some x else find (λ z. nat_eq z.number n) xs) ≡ Some y → (find test xs ≡ None → find (λ z. nat_eq z.number n) xs ≡ Some y → test y ≡ false) → test y ≡ false
    one true t e f more = absurd (cc)
    one false t e f more = two (nat_eq x.number n) t f (more e)

module _ (site : Site) (held : List Held) where
  -- a grant that is due, with the label of its request and its executor
  pub record Due (rs : List OpenRequest) (request executor : ℕ) : Type 0 where
    pub label : Option (List ℕ)
    pub asked : request_of rs request ≡ Some (NodeRequest label)
    pub fit : Executor
    pub free : free_executor site held label ≡ Some fit
    pub number : fit.number ≡ executor

  due_here : (r : OpenRequest) (rs : List OpenRequest) (x : Executor) (q : Request) → r.request ≡ q → executor_for site held q ≡ Some x → Due (r ∷ rs) r.number x.number
  due_here r rs x (NodeRequest l) is fits = record {
    label = l;
    asked = ap (λ b. option_map (λ y. y.request) (if b then Some r else find (λ y. nat_eq y.number r.number) rs)) (same_number r.number) ∙ ap Some is;
    fit = x;
    free = fits;
    number = refl;
  }
  due_here r rs x (TaskRequest y w f e s st k t o) is fits = absurd (cc)
  due_here r rs x (InputRequest i) is fits = absurd (cc)

  is_due : (k m : ℕ) (rs : List OpenRequest) → Rise k m (numbers_of rs) → (request executor : ℕ) → IsGrant site held rs request executor → Due rs request executor
  is_due k m [] rise request executor x = elim x [ ]
  is_due k m (r ∷ rs) rise request executor (grant_here {x = x} fits) = due_here r rs x r.request refl fits
  is_due k m (r ∷ rs) rise request executor (grant_later fails more) =
      let d : Due rs request executor = is_due (suc r.number) m rs rise.2 request executor more in
      let above : r.number < request = some_all (λ q. suc r.number ≤ q.number) (λ q. q.number ≡ request) (r.number < request) (λ q le at. omega (arith, le, at)) rs (rise_from (suc r.number) m rs rise.2) (open_of request rs (NodeRequest d.label) d.asked) in
      record {
        label = d.label;
        asked = ap (λ b. option_map (λ y. y.request) (if b then Some r else find (λ y. nat_eq y.number request) rs)) (other_number r.number request (λ e. omega (arith, above, e))) ∙ d.asked;
        fit = d.fit;
        free = d.free;
        number = d.number;
      }

  -- no request is fitted
  none_fitted : (rs : List OpenRequest) → NoGrant site held rs → (request : ℕ) (q : Request) → request_of rs request ≡ Some q → executor_for site held q ≡ None
  none_fitted [] none request q e = absurd (cc)
  none_fitted (r ∷ rs) (none_fits here more) request q e = one (nat_eq r.number request) e (none_fitted rs more request q)
    where
      one : (b : Bool) → option_map (λ y. y.request) (if b then Some r else find (λ y. nat_eq y.number request) rs) ≡ Some q → (request_of rs request ≡ Some q → executor_for site held q ≡ None) → executor_for site held q ≡ None
      one true e more = let is : r.request ≡ q = cc in subst (λ x. executor_for site held x ≡ None) is here
      one false e more = more e

-- Executors of an agents file have different numbers.
numbers_from : (agent : Data) (n slot k : ℕ) → Rise n (n + k) (map (λ x. x.number) (agent_executors agent n slot k))
numbers_from agent n slot zero = tt
numbers_from agent n slot (suc k) = (omega arith, omega arith, subst (λ m. Rise (suc n) m (map (λ x. x.number) (agent_executors agent (suc n) (suc slot) k))) (let e : suc n + k ≡ n + suc k = omega arith in e) (numbers_from agent (suc n) (suc slot) k))

map_behind : (xs ys : List Executor) → map (λ x. x.number) (xs ++ ys) ≡ map (λ x. x.number) xs ++ map (λ x. x.number) ys
map_behind [] ys = refl
map_behind (x ∷ xs) ys = ap (λ ns. x.number ∷ ns) (map_behind xs ys)

record Numbered (n : ℕ) (xs : List Executor) : Type 0 where
  most : ℕ
  from : n ≤ most
  rise : Rise n most (map (λ x. x.number) xs)

executors_rise : (n : ℕ) (agents : Items) → Numbered n (executors_from n agents)
executors_rise n no_items = record { most = n; from = omega arith; rise = tt }
executors_rise n (item agent agents) =
    let rest : Numbered (n + number_at 0 (codes "executors") agent) (executors_from (n + number_at 0 (codes "executors") agent) agents) = executors_rise (n + number_at 0 (codes "executors") agent) agents in
    record {
      most = rest.most;
      from = omega (arith, rest.from);
      rise = subst (Rise n rest.most) (sym (map_behind (agent_executors agent n 0 (number_at 0 (codes "executors") agent)) (executors_from (n + number_at 0 (codes "executors") agent) agents)))
          (rise_behind n (n + number_at 0 (codes "executors") agent) rest.most _ _ (omega arith) rest.from (numbers_from agent n 0 (number_at 0 (codes "executors") agent)) rest.rise);
    }

rise_apart : (n k m : ℕ) (xs : List ℕ) → n < k → Rise k m xs → AllAre (λ x. n ≡ x → ⊥) xs
rise_apart n k m [] lt h = tt
rise_apart n k m (x ∷ xs) lt h = ((λ e. omega (arith, lt, h.0, e)), rise_apart n (suc x) m xs (omega (arith, lt, h.0)) h.2)

rise_distinct : (n m : ℕ) (xs : List ℕ) → Rise n m xs → Distinct xs
rise_distinct n m [] h = tt
rise_distinct n m (x ∷ xs) h = (rise_apart x (suc x) m xs (omega arith) h.2, rise_distinct (suc x) m xs h.2)

pub site_numbers : (d : Data) → Distinct (map (λ x. x.number) (site_of d).executors)
site_numbers d = let n = executors_rise 0 (items_at (codes "agents") d) in rise_distinct 0 n.most _ n.rise

answers_so : (ended started : Bool) (a f : Taken) → ended ≡ false → started ≡ true → a ≡ Accepted → (if ended then Finished else if started then a else f) ≡ Accepted
answers_so true started a f e s is = absurd (cc)
answers_so false true a f e s is = is
answers_so false false a f e s is = absurd (cc)

module _ (setting : Setting) (p : Node) (e : setting.script ≡ term 0 p) (small : Small setting) where
  -- the grant that is due is accepted, where no two executors of the site have one number
  pub due_accepted : Distinct (map (λ x. x.number) setting.site.executors) → (events : List Event) → (world_in setting events).started ≡ true → (world_in setting events).ended ≡ false → (request executor : ℕ)
      → next_grant setting (world_in setting events) ≡ Some (request, executor) → answer_to setting (world_in setting events) (GrantedEvent request executor) ≡ Accepted
  due_accepted apart events started going request executor due =
      let b : Build = world_in setting events in
      let d : Due setting.site (world_in setting events).shared.held (world_in setting events).shared.requests request executor =
      is_due setting.site (world_in setting events).shared.held 1 (world_in setting events).shared.next_request (world_in setting events).shared.requests (world_requests setting p e small events).requests request executor
      (granted setting.site (world_in setting events).shared.held (world_in setting events).shared.requests request executor due) in
      let test : not (is_held (world_in setting events).shared.held d.fit.number) && executor_fits d.label d.fit ≡ true = found_passes (λ x. not (is_held (world_in setting events).shared.held x.number) && executor_fits d.label x) setting.site.executors d.fit d.free in
      let known : executor_of setting.site executor ≡ Some d.fit = subst (λ n. executor_of setting.site n ≡ Some d.fit) d.number (found_by_number (λ x. not (is_held (world_in setting events).shared.held x.number) && executor_fits d.label x) setting.site.executors apart d.fit d.free) in
      let may : may_get d.label (world_in setting events).shared.held (executor_of setting.site executor) ≡ true = ap (may_get d.label (world_in setting events).shared.held) known ∙ test in
      answers_so (world_in setting events).ended (world_in setting events).started (grant_answer (standing setting (world_in setting events)) executor (request_of (world_in setting events).shared.requests request)) NotOpen going started
      (ap (grant_answer (standing setting (world_in setting events)) executor) d.asked ∙ ap accepted_if may)

  -- where none is due no grant is accepted
  pub none_due : (events : List Event) → next_grant setting (world_in setting events) ≡ None → (request executor : ℕ) → answer_to setting (world_in setting events) (GrantedEvent request executor) ≡ Accepted → ⊥
  none_due events none request executor a =
      let w = accepted_grant (standing setting (world_in setting events)) executor (request_of (world_in setting events).shared.requests request)
      (accepted_answer (world_in setting events).ended (world_in setting events).started (grant_answer (standing setting (world_in setting events)) executor (request_of (world_in setting events).shared.requests request)) NotOpen (λ never. absurd (cc)) a) in
      one w.0 (none_fitted setting.site (world_in setting events).shared.held (world_in setting events).shared.requests (not_granted setting.site (world_in setting events).shared.held (world_in setting events).shared.requests none) request (NodeRequest w.0) w.1)
      (executor_of setting.site executor) refl w.2
    where
      one : (label : Option (List ℕ)) → free_executor setting.site (world_in setting events).shared.held label ≡ None → (o : Option Executor) → executor_of setting.site executor ≡ o → may_get label (world_in setting events).shared.held o ≡ true → ⊥
      one label free None found may = absurd (cc)
      one label free (Some y) found may =
          let fails : not (is_held (world_in setting events).shared.held y.number) && executor_fits label y ≡ false = none_passes (λ x. not (is_held (world_in setting events).shared.held x.number) && executor_fits label x) executor setting.site.executors y free found in
          let bad : true ≡ false = sym may ∙ fails in absurd (cc)
