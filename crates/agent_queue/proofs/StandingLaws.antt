-- What a queue stands for behind each of its calls, and that its own search is the grant of the definitions.
use Rattle.std.proofs.Common.{◌≡◌, ℕ, suc, ◌+◌, ◌<◌, length, take, drop, get_or, slice_set, drop-cons, take-suc, length-take-le, add-one, Bool, true, false, List, [], ◌∷◌, ◌++◌, map, nat_eq, refl, sym, ap, ◌∙◌, subst, arith, Option, Some, None}
use Rattle.std.specs.Prelude.{not, ◌&&◌, ◌||◌, find, cond, nat_lt, if◌then◌else◌, IfSome}
use Rattle.std.specs.Option.{option_map, is_none, is_some}
use Rattle.std.specs.List.{list_any, filter, AllZip}
use Rattle.std.proofs.lemmas.List.{length-map, map-append, append_assoc, append-nil, drop_all, take_all}
use Rattle.std.proofs.lemmas.List.Folds.{list_any_more}
use Rattle.label_expr.specs.declared.condition.LabelExpr.{LabelExpr}
use Rattle.label_expr.specs.Conditions.{fits, IsLabel}
use Rattle.model_run.specs.declared.site.Site.{Site}
use Rattle.model_run.specs.declared.site.Executor.{Executor}
use Rattle.model_run.specs.declared.held.Held.{Held}
use Rattle.model_run.specs.declared.request.Request.{Request}
use Rattle.model_run.specs.declared.request.Request.TheVariants.{Node as NodeRequest, Task as TaskRequest, Input as InputRequest}
use Rattle.model_run.specs.declared.request.OpenRequest.{OpenRequest}
use Rattle.model_run.specs.Grants.{is_held, executor_fits, free_executor, executor_for, else_grant, grant, with_held, without_request}
use Rattle.agent_queue.specs.declared.seat.Seat.{Seat}
use Rattle.agent_queue.specs.declared.seat.Asked.{Asked}
use Rattle.agent_queue.specs.Seats.{is_free, is_holder, is_number, is_other, held_by, freed_by, takes, free_seat, or_next, next}
use Rattle.agent_queue.specs.declared.queue.Queue.{Queue}
use Rattle.agent_queue.specs.Standing.{holds_number, IsSeat, IsTaken, ask_before, asks, IsAsk, StandsFor, first_unknown}

-- who holds an executor behind a grant and behind a release
or_swap : (a b c : Bool) → (a || (b || c)) ≡ (b || (a || c))
or_swap true true c = refl
or_swap true false c = refl
or_swap false b c = refl

held_before : (test : Held → Bool) (h o : Held) (os rest : List Held) (b : Bool) → list_any test rest ≡ (test h || list_any test os)
    → list_any test (if b then h ∷ o ∷ os else o ∷ rest) ≡ (test h || list_any test (o ∷ os))
held_before test h o os rest true e = refl
held_before test h o os rest false e = ap (λ t. test o || t) e ∙ or_swap (test o) (test h) (list_any test os)

any-with_held : (test : Held → Bool) (h : Held) (held : List Held) → list_any test (with_held h held) ≡ (test h || list_any test held)
any-with_held test h [] = refl
any-with_held test h (o ∷ os) = held_before test h o os (with_held h os) (nat_lt h.executor o.executor) (any-with_held test h os)

holds-without : (q n r : ℕ) (held : List Held) → holds_number (without_request q held) n r ≡ (holds_number held n r && not (nat_eq r q))
holds-without q n r [] = refl
holds-without q n r (h ∷ held) =
    let rest = holds-without q n r held in
    grind (arith, rest)

-- a release
freed-holder : (q r : ℕ) (seat : Seat) → is_holder (freed_by q seat).holder r ≡ (is_holder seat.holder r && not (nat_eq r q))
freed-holder q r seat = freed_of seat.holder refl
  where
    freed_of : (o : Option ℕ) → seat.holder ≡ o → is_holder (freed_by q seat).holder r ≡ (is_holder seat.holder r && not (nat_eq r q))
    freed_of None e = grind (arith, e)
    freed_of (Some p) e = grind (arith, e)

freed_seat : (q : ℕ) (held : List Held) (x : Executor) (seat : Seat) → IsSeat held x seat → IsSeat (without_request q held) x (freed_by q seat)
freed_seat q held x seat (number, labels, holds) = (
  freed_number (is_holder seat.holder q) refl,
  freed_labels (is_holder seat.holder q) refl,
  λ r. holds-without q x.number r held ∙ ap (λ b. b && not (nat_eq r q)) (holds r) ∙ sym (freed-holder q r seat),
)
  where
    freed_number : (b : Bool) → is_holder seat.holder q ≡ b → (freed_by q seat).number ≡ x.number
    freed_number true e = ap (λ c. (if c then record seat { holder = None } else seat).number) e ∙ number
    freed_number false e = ap (λ c. (if c then record seat { holder = None } else seat).number) e ∙ number

    freed_labels : (b : Bool) → is_holder seat.holder q ≡ b → (freed_by q seat).labels ≡ x.agent ∷ x.labels
    freed_labels true e = ap (λ c. (if c then record seat { holder = None } else seat).labels) e ∙ labels
    freed_labels false e = ap (λ c. (if c then record seat { holder = None } else seat).labels) e ∙ labels

pub freed_stand : (q : ℕ) (held : List Held) (xs : List Executor) (seats : List Seat) → AllZip (IsSeat held) xs seats → AllZip (IsSeat (without_request q held)) xs (map (freed_by q) seats)
freed_stand q held [] [] stand = tt
freed_stand q held [] (s ∷ ss) stand = absurd stand
freed_stand q held (x ∷ xs) [] stand = absurd stand
freed_stand q held (x ∷ xs) (s ∷ ss) stand = (freed_seat q held x s stand.0, freed_stand q held xs ss stand.1)

-- a request is asked
all-snoc : {A B : Type 0} (R : A → B → Type 0) (xs : List A) (ys : List B) (x : A) (y : B) → AllZip R xs ys → R x y → AllZip R (xs ++ x ∷ []) (ys ++ y ∷ [])
all-snoc R [] [] x y all one = (one, tt)
all-snoc R [] (z ∷ zs) x y all one = absurd all
all-snoc R (w ∷ ws) [] x y all one = absurd all
all-snoc R (w ∷ ws) (z ∷ zs) x y all one = (all.0, all-snoc R ws zs x y all.1 one)

before-append : (n : ℕ) (q : Request) (ls bs cs : List (ℕ × Option (List ℕ))) → cs ≡ ls ++ bs → ask_before n q cs ≡ ask_before n q ls ++ bs
before-append n (NodeRequest label) ls bs cs e = ap (λ t. (n, label) ∷ t) e
before-append n (TaskRequest executor workspace folder env script status keep_out taken out) ls bs cs e = e
before-append n (InputRequest id) ls bs cs e = e

pub asks-append : (rs : List OpenRequest) (last : OpenRequest) → asks (rs ++ last ∷ []) ≡ asks rs ++ ask_before last.number last.request []
asks-append [] last = refl
asks-append (r ∷ rs) last = before-append r.number r.request (asks rs) (ask_before last.number last.request []) (asks (rs ++ last ∷ [])) (asks-append rs last)

pub asked_stand : (rs : List OpenRequest) (waiting : List Asked) (request : OpenRequest) (label : Option (List ℕ)) (a : Asked)
    → AllZip IsAsk (asks rs) waiting → request.request ≡ NodeRequest label → request.number ≡ a.request → IsLabel label a.expr
    → AllZip IsAsk (asks (rs ++ request ∷ [])) (waiting ++ a ∷ [])
asked_stand rs waiting request label a stand node number is =
    let e = asks-append rs request ∙ ap (λ q. asks rs ++ ask_before request.number q []) node in
    subst (λ (ls : List (ℕ × Option (List ℕ))). AllZip IsAsk ls (waiting ++ a ∷ [])) (sym e)
    (all-snoc IsAsk (asks rs) waiting (request.number, label) a stand (sym number, is))

-- whether an executor is free
none_held : (held : List Held) (n : ℕ) → ((r : ℕ) → holds_number held n r ≡ false) → is_held held n ≡ false
none_held [] n none = refl
none_held (h ∷ held) n none =
    let first = none h.request in
    let rest = none_held held n (λ r. or_right (nat_eq h.executor n && nat_eq h.request r) (holds_number held n r) (none r)) in
    grind (arith, first, rest)
  where
    or_right : (a b : Bool) → (a || b) ≡ false → b ≡ false
    or_right true b e = cc
    or_right false b e = e

some_held : (held : List Held) (n r : ℕ) → holds_number held n r ≡ true → is_held held n ≡ true
some_held [] n r some = cc
some_held (h ∷ held) n r some =
    by_first (nat_eq h.executor n) (nat_eq h.request r) (some_held held n r) some
  where
    by_first : (a b : Bool) → (holds_number held n r ≡ true → is_held held n ≡ true) → ((a && b) || holds_number held n r) ≡ true → (a || is_held held n) ≡ true
    by_first true b go e = refl
    by_first false b go e = go e

taken_is : (held : List Held) (n : ℕ) (o : Option ℕ) → ((r : ℕ) → holds_number held n r ≡ is_holder o r) → is_held held n ≡ is_some o
taken_is held n None holds = none_held held n holds
taken_is held n (Some q) holds =
    let same : nat_eq q q ≡ true = grind arith in
    some_held held n q (holds q ∙ same)

pub taken_stand : (held : List Held) (xs : List Executor) (seats : List Seat) → AllZip (IsSeat held) xs seats → AllZip (IsTaken held) xs seats
taken_stand held [] [] stand = tt
taken_stand held [] (s ∷ ss) stand = absurd stand
taken_stand held (x ∷ xs) [] stand = absurd stand
taken_stand held (x ∷ xs) (s ∷ ss) stand = ((stand.0.0, stand.0.1, taken_is held x.number s.holder stand.0.2), taken_stand held xs ss stand.1)

free_is : (o : Option ℕ) → is_free o ≡ not (is_some o)
free_is None = refl
free_is (Some q) = refl

takes_is : (held : List Held) (x : Executor) (s : Seat) (label : Option (List ℕ)) (e : LabelExpr) → IsTaken held x s → IsLabel label e
    → takes e s ≡ (not (is_held held x.number) && executor_fits label x)
takes_is held x s label e (number, labels, taken) is =
    ap (λ b. b && fits s.labels e) (free_is s.holder ∙ ap not (sym taken))
    ∙ ap (λ ls. not (is_held held x.number) && fits ls e) labels
    ∙ ap (λ b. not (is_held held x.number) && b) (is (x.agent ∷ x.labels))

free_law : (held : List Held) (label : Option (List ℕ)) (e : LabelExpr) → IsLabel label e → (xs : List Executor) (ss : List Seat) → AllZip (IsTaken held) xs ss
    → free_seat e ss ≡ option_map (λ x. x.number) (find (λ x. not (is_held held x.number) && executor_fits label x) xs)
free_law held label e is [] [] stand = refl
free_law held label e is [] (s ∷ ss) stand = absurd stand
free_law held label e is (x ∷ xs) [] stand = absurd stand
free_law held label e is (x ∷ xs) (s ∷ ss) stand =
    ap (λ b. option_map (λ t. t.number) (cond b (Some s) (find (takes e) ss))) (takes_is held x s label e stand.0 is)
    ∙ by_first (not (is_held held x.number) && executor_fits label x) (free_law held label e is xs ss stand.1)
  where
    by_first : (b : Bool) → free_seat e ss ≡ option_map (λ y. y.number) (find (λ y. not (is_held held y.number) && executor_fits label y) xs) → option_map (λ t. t.number) (cond b (Some s) (find (takes e) ss)) ≡ option_map (λ y. y.number) (cond b (Some x) (find (λ y. not (is_held held y.number) && executor_fits label y) xs))
    by_first true go = ap Some stand.0.0
    by_first false go = go

or_is : (n : ℕ) (o : Option Executor) (t : Option (ℕ × ℕ)) → or_next n (option_map (λ x. x.number) o) t ≡ else_grant n o t
or_is n None t = refl
or_is n (Some x) t = refl

module _ (site : Site) (held : List Held) (seats : List Seat) (taken : AllZip (IsTaken held) site.executors seats) where
  grant_step : (n : ℕ) (q : Request) (rs : List OpenRequest) (waiting : List Asked)
      → ((ws : List Asked) → AllZip IsAsk (asks rs) ws → next seats ws ≡ grant site held rs)
      → AllZip IsAsk (ask_before n q (asks rs)) waiting → next seats waiting ≡ else_grant n (executor_for site held q) (grant site held rs)
  grant_step n (NodeRequest label) rs [] go all = absurd all
  grant_step n (NodeRequest label) rs (a ∷ waiting) go all =
      ap (λ m. or_next m (free_seat a.expr seats) (next seats waiting)) all.0.0
      ∙ ap (λ o. or_next n o (next seats waiting)) (free_law held label a.expr all.0.1 site.executors seats taken)
      ∙ or_is n (free_executor site held label) (next seats waiting)
      ∙ ap (else_grant n (free_executor site held label)) (go waiting all.1)
  grant_step n (TaskRequest executor workspace folder env script status keep_out taken out) rs waiting go all = go waiting all
  grant_step n (InputRequest id) rs waiting go all = go waiting all

  pub grant_is : (rs : List OpenRequest) (waiting : List Asked) → AllZip IsAsk (asks rs) waiting → next seats waiting ≡ grant site held rs
  grant_is [] [] all = refl
  grant_is [] (a ∷ waiting) all = absurd all
  grant_is (r ∷ rs) waiting all = grant_step r.number r.request rs waiting (grant_is rs) all

-- a granted executor was free
module _ (site : Site) (held : List Held) (seats : List Seat) (stand : AllZip (IsSeat held) site.executors seats) where
  free_none : (o : Option ℕ) (r : ℕ) → is_free o ≡ true → is_holder o r ≡ false
  free_none None r e = refl
  free_none (Some q) r e = cc

  abbrev IsFree : ℕ → Type 0
  IsFree n = (r : ℕ) → holds_number held n r ≡ false

  and_left : (a b : Bool) → (a && b) ≡ true → a ≡ true
  and_left true b e = refl
  and_left false b e = cc

  seat_free : (e : LabelExpr) (xs : List Executor) (ss : List Seat) → AllZip (IsSeat held) xs ss → IfSome (free_seat e ss) IsFree
  seat_free e [] [] all = tt
  seat_free e [] (s ∷ ss) all = absurd all
  seat_free e (x ∷ xs) [] all = absurd all
  seat_free e (x ∷ xs) (s ∷ ss) all = by_first (takes e s) refl (seat_free e xs ss all.1)
    where
      by_first : (b : Bool) → takes e s ≡ b → IfSome (free_seat e ss) IsFree → IfSome (option_map (λ t. t.number) (cond b (Some s) (find (takes e) ss))) IsFree
      by_first true is go = λ r. ap (λ n. holds_number held n r) all.0.0 ∙ all.0.2 r ∙ free_none s.holder r (and_left (is_free s.holder) (fits s.labels e) is)
      by_first false is go = go

  next_free : (waiting : List Asked) → IfSome (next seats waiting) (λ g. IsFree g.1)
  next_free [] = tt
  next_free (a ∷ waiting) = by_seat (free_seat a.expr seats) (seat_free a.expr site.executors seats stand) (next_free waiting)
    where
      by_seat : (o : Option ℕ) → IfSome o IsFree → IfSome (next seats waiting) (λ g. IsFree g.1) → IfSome (or_next a.request o (next seats waiting)) (λ g. IsFree g.1)
      by_seat None free go = go
      by_seat (Some n) free go = free

  pub granted_free : (waiting : List Asked) (q n : ℕ) → Some (q, n) ≡ next seats waiting → (r : ℕ) → holds_number held n r ≡ false
  granted_free waiting q n e = subst (λ (p : Option (ℕ × ℕ)). IfSome p (λ g. IsFree g.1)) (sym e) (next_free waiting)

-- who holds it changes neither its number nor its labels
pub kept-number : (b : Bool) (q : ℕ) (seat : Seat) → (if b then record seat { holder = Some q } else seat).number ≡ seat.number
kept-number true q seat = refl
kept-number false q seat = refl

pub kept-labels : (b : Bool) (q : ℕ) (seat : Seat) → (if b then record seat { holder = Some q } else seat).labels ≡ seat.labels
kept-labels true q seat = refl
kept-labels false q seat = refl

-- the executor of a number is held
module _ (n q : ℕ) (held after : List Held) (more : (m r : ℕ) → holds_number after m r ≡ ((nat_eq n m && nat_eq q r) || holds_number held m r)) (free : (r : ℕ) → holds_number held n r ≡ false) where
  held_seat : (x : Executor) (seat : Seat) → IsSeat held x seat → IsSeat after x (held_by n q seat)
  held_seat x seat (number, labels, holds) = (
    kept-number (is_number n seat) q seat ∙ number,
    kept-labels (is_number n seat) q seat ∙ labels,
    λ r. more x.number r ∙ by_number (is_number n seat) refl r,
  )
    where
      by_number : (b : Bool) → is_number n seat ≡ b → (r : ℕ) → ((nat_eq n x.number && nat_eq q r) || holds_number held x.number r) ≡ is_holder (if b then record seat { holder = Some q } else seat).holder r
      by_number true is r = let none = free r in grind (arith, is, number, none)
      by_number false is r = let same = holds r in grind (arith, is, number, same)

  pub held_stand : (xs : List Executor) (seats : List Seat) → AllZip (IsSeat held) xs seats → AllZip (IsSeat after) xs (map (held_by n q) seats)
  held_stand [] [] stand = tt
  held_stand [] (s ∷ ss) stand = absurd stand
  held_stand (x ∷ xs) [] stand = absurd stand
  held_stand (x ∷ xs) (s ∷ ss) stand = (held_seat x s stand.0, held_stand xs ss stand.1)

-- in whichever workspace
pub granted_stand : (n q w : ℕ) (held : List Held) → ((r : ℕ) → holds_number held n r ≡ false) → (xs : List Executor) (seats : List Seat) → AllZip (IsSeat held) xs seats
    → AllZip (IsSeat (with_held (record { executor = n; request = q; workspace = w }) held)) xs (map (held_by n q) seats)
granted_stand n q w held free =
    let granted : Held = record { executor = n; request = q; workspace = w } in
    held_stand n q held (with_held granted held) (λ m r. any-with_held (λ h. nat_eq h.executor m && nat_eq h.request r) granted held) free

-- a request that is granted waits no longer
asks-cond : (b : Bool) (r : OpenRequest) (rs : List OpenRequest) → asks (cond b (r ∷ rs) rs) ≡ cond b (ask_before r.number r.request (asks rs)) (asks rs)
asks-cond true r rs = refl
asks-cond false r rs = refl

module _ (q : ℕ) where
  forgotten_step : (n : ℕ) (k : Request) (rs : List OpenRequest) (waiting : List Asked) (b : Bool) → nat_eq n q ≡ b
      → ((ws : List Asked) → AllZip IsAsk (asks rs) ws → AllZip IsAsk (asks (filter (λ r. not (nat_eq r.number q)) rs)) (filter (is_other q) ws))
      → AllZip IsAsk (ask_before n k (asks rs)) waiting
      → AllZip IsAsk (cond (not b) (ask_before n k (asks (filter (λ r. not (nat_eq r.number q)) rs))) (asks (filter (λ r. not (nat_eq r.number q)) rs))) (filter (is_other q) waiting)
  forgotten_step n (NodeRequest label) rs [] b e go all = absurd all
  forgotten_step n (NodeRequest label) rs (a ∷ waiting) true e go all =
      let out = ap (λ m. nat_eq m q) all.0.0 ∙ e in
      subst (λ (c : Bool). AllZip IsAsk (asks (filter (λ r. not (nat_eq r.number q)) rs)) (cond (not c) (a ∷ filter (is_other q) waiting) (filter (is_other q) waiting))) (sym out) (go waiting all.1)
  forgotten_step n (NodeRequest label) rs (a ∷ waiting) false e go all =
      let out = ap (λ m. nat_eq m q) all.0.0 ∙ e in
      subst (λ (c : Bool). AllZip IsAsk ((n, label) ∷ asks (filter (λ r. not (nat_eq r.number q)) rs)) (cond (not c) (a ∷ filter (is_other q) waiting) (filter (is_other q) waiting))) (sym out) (all.0, go waiting all.1)
  forgotten_step n (TaskRequest executor workspace folder env script status keep_out taken out) rs waiting true e go all = go waiting all
  forgotten_step n (TaskRequest executor workspace folder env script status keep_out taken out) rs waiting false e go all = go waiting all
  forgotten_step n (InputRequest id) rs waiting true e go all = go waiting all
  forgotten_step n (InputRequest id) rs waiting false e go all = go waiting all

  pub forgotten_stand : (rs : List OpenRequest) (waiting : List Asked) → AllZip IsAsk (asks rs) waiting
      → AllZip IsAsk (asks (filter (λ r. not (nat_eq r.number q)) rs)) (filter (is_other q) waiting)
  forgotten_stand [] [] all = tt
  forgotten_stand [] (a ∷ waiting) all = absurd all
  forgotten_stand (r ∷ rs) waiting all =
      subst (λ (ls : List (ℕ × Option (List ℕ))). AllZip IsAsk ls (filter (is_other q) waiting)) (sym (asks-cond (not (nat_eq r.number q)) r (filter (λ r. not (nat_eq r.number q)) rs)))
      (forgotten_step r.number r.request rs waiting (nat_eq r.number q) refl (forgotten_stand rs) all)

-- the requests matter only by those of `node` steps
pub stands_by_asks : (site : Site) (held : List Held) (requests others : List OpenRequest) (queue : Queue) → asks requests ≡ asks others → StandsFor site held requests queue → StandsFor site held others queue
stands_by_asks site held requests others queue same stands =
    (stands.0, subst (λ (ls : List (ℕ × Option (List ℕ))). AllZip IsAsk ls queue.waiting.items) same stands.1)

-- whether a request holds something, by the executors and by the held list
or_true : (b : Bool) → (b || true) ≡ true
or_true true = refl
or_true false = refl

or_each : (p b r s t : Bool) → (((p && b) || r) || ((s && b) || t)) ≡ (((p || s) && b) || (r || t))
or_each true true r s t = refl
or_each true false r true t = refl
or_each true false r false t = refl
or_each false b r s t = or_swap r (s && b) t

any_each : (a c : Executor → Bool) (b : Bool) (xs : List Executor) → list_any (λ x. (a x && b) || c x) xs ≡ ((list_any a xs && b) || list_any c xs)
any_each a c b [] = refl
any_each a c b (x ∷ xs) = ap (λ t. ((a x && b) || c x) || t) (any_each a c b xs) ∙ or_each (a x) b (c x) (list_any a xs) (list_any c xs)

found_any : (n : ℕ) (xs : List Executor) → is_none (find (λ x. nat_eq x.number n) xs) ≡ false → list_any (λ x. nat_eq n x.number) xs ≡ true
found_any n [] e = absurd (cc e)
found_any n (x ∷ xs) e = by_first (nat_eq x.number n) refl (found_any n xs) e
  where
    by_first : (b : Bool) → nat_eq x.number n ≡ b → (is_none (find (λ y. nat_eq y.number n) xs) ≡ false → list_any (λ y. nat_eq n y.number) xs ≡ true) → is_none (cond b (Some x) (find (λ y. nat_eq y.number n) xs)) ≡ false → (nat_eq n x.number || list_any (λ y. nat_eq n y.number) xs) ≡ true
    by_first true is go some =
        let same : nat_eq n x.number ≡ true = grind (arith, is) in
        ap (λ b. b || list_any (λ y. nat_eq n y.number) xs) same
    by_first false is go some = ap (λ t. nat_eq n x.number || t) (go some) ∙ or_true (nat_eq n x.number)

module _ (q : ℕ) where
  seats_any : (held : List Held) (xs : List Executor) (seats : List Seat) → AllZip (IsSeat held) xs seats → list_any (λ s. is_holder s.holder q) seats ≡ list_any (λ x. holds_number held x.number q) xs
  seats_any held [] [] stand = refl
  seats_any held [] (s ∷ ss) stand = absurd stand
  seats_any held (x ∷ xs) [] stand = absurd stand
  seats_any held (x ∷ xs) (s ∷ ss) stand =
      ap (λ b. b || list_any (λ t. is_holder t.holder q) ss) (sym (stand.0.2 q)) ∙ ap (λ b. holds_number held x.number q || b) (seats_any held xs ss stand.1)

  none_any : (xs : List Executor) → false ≡ list_any (λ x. holds_number [] x.number q) xs
  none_any [] = refl
  none_any (x ∷ xs) = none_any xs

  module _ (xs : List Executor) where
    asked_any : (held : List Held) → option_map (λ h. h.executor) (find (λ h. is_none (find (λ x. nat_eq x.number h.executor) xs)) held) ≡ None
        → list_any (λ h. nat_eq h.request q) held ≡ list_any (λ x. holds_number held x.number q) xs
    asked_any [] e = none_any xs
    asked_any (h ∷ held) e = by_first (is_none (find (λ x. nat_eq x.number h.executor) xs)) refl (asked_any held) e
      where
        by_first : (b : Bool) → is_none (find (λ x. nat_eq x.number h.executor) xs) ≡ b
            → (option_map (λ o. o.executor) (find (λ o. is_none (find (λ x. nat_eq x.number o.executor) xs)) held) ≡ None → list_any (λ o. nat_eq o.request q) held ≡ list_any (λ x. holds_number held x.number q) xs)
            → option_map (λ o. o.executor) (cond b (Some h) (find (λ o. is_none (find (λ x. nat_eq x.number o.executor) xs)) held)) ≡ None
            → (nat_eq h.request q || list_any (λ o. nat_eq o.request q) held) ≡ list_any (λ x. (nat_eq h.executor x.number && nat_eq h.request q) || holds_number held x.number q) xs
        by_first true is go none = absurd (cc none)
        by_first false is go none =
            ap (λ t. nat_eq h.request q || t) (go none)
            ∙ ap (λ b. (b && nat_eq h.request q) || list_any (λ x. holds_number held x.number q) xs) (sym (found_any h.executor xs is))
            ∙ sym (any_each (λ x. nat_eq h.executor x.number) (λ x. holds_number held x.number q) (nat_eq h.request q) xs)

  pub holds_any : (site : Site) (held : List Held) (seats : List Seat) → AllZip (IsSeat held) site.executors seats → first_unknown site held ≡ None
      → list_any (λ s. is_holder s.holder q) seats ≡ list_any (λ h. nat_eq h.request q) held
  holds_any site held seats stand known = seats_any held site.executors seats stand ∙ sym (asked_any site.executors held known)

-- a change of one element after the other
set_there : (p q : List Seat) (x t : Seat) → slice_set (p ++ x ∷ q) (length p) t ≡ p ++ t ∷ q
set_there [] q x t = refl
set_there (y ∷ p) q x t = ap (λ l. y ∷ l) (set_there p q x t)

get_there : (p q : List Seat) (x d : Seat) → get_or (p ++ x ∷ q) (length p) d ≡ x
get_there [] q x d = refl
get_there (y ∷ p) q x d = get_there p q x d

module _ (f : Seat → Seat) (xs ys : List Seat) (i : ℕ) (s : Seat) (within : i < length xs) (so_far : ys ≡ map f (take i xs) ++ drop i xs) where
  abbrev changed : List Seat
  changed = map f (take i xs)

  abbrev here : Seat
  here = get_or xs i s

  size : length changed ≡ i
  size = length-map (take i xs) f ∙ length-take-le i xs (omega (arith, within))

  split : ys ≡ changed ++ here ∷ drop (suc i) xs
  split = so_far ∙ ap (λ l. map f (take i xs) ++ l) (drop-cons xs i s within)

  -- what stands there is what stood there
  pub swept_is : s ≡ get_or ys i s → s ≡ get_or xs i s
  swept_is is = is ∙ ap (λ l. get_or l i s) split ∙ ap (λ k. get_or (changed ++ here ∷ drop (suc i) xs) k s) (sym size) ∙ get_there changed (drop (suc i) xs) here s

  pub swept : (t : Seat) → s ≡ get_or ys i s → t ≡ f s → slice_set ys i t ≡ map f (take (i + 1) xs) ++ drop (i + 1) xs
  swept t is made =
      let last = ap f (swept_is is) in
      ap (λ l. slice_set l i t) split
      ∙ ap (λ k. slice_set (changed ++ here ∷ drop (suc i) xs) k t) (sym size)
      ∙ set_there changed (drop (suc i) xs) here t
      ∙ ap (λ u. changed ++ u ∷ drop (suc i) xs) (made ∙ last)
      ∙ sym (append_assoc (map f (take i xs)) (f here ∷ []) (drop (suc i) xs))
      ∙ ap (λ l. l ++ drop (suc i) xs) (sym (map-append f (take i xs) (here ∷ [])) ∙ ap (map f) (sym (take-suc xs i s within)))
      ∙ ap (λ k. map f (take k xs) ++ drop k xs) (sym (add-one i))

  -- and so it is found
  pub swept_any : (p : Seat → Bool) (b : Bool) → s ≡ get_or ys i s → b ≡ list_any p (take i xs) → (b || p s) ≡ list_any p (take (i + 1) xs)
  swept_any p b is found = ap (λ c. c || p s) found ∙ ap (λ u. list_any p (take i xs) || p u) (swept_is is) ∙ sym (list_any_more p xs i s within)

-- the executors of a new queue
pub new_next : (xs : List Executor) (i : ℕ) (x : Executor) (seats : List Seat) (s : Seat) → x ≡ get_or xs i x → i < length xs → AllZip (IsSeat []) (take i xs) seats
    → s.number ≡ x.number → s.labels ≡ x.agent ∷ x.labels → s.holder ≡ None → AllZip (IsSeat []) (take (i + 1) xs) (seats ++ s ∷ [])
new_next xs i x seats s is within stand number labels free =
    let more = ap (λ k. take k xs) (add-one i) ∙ take-suc xs i x within ∙ ap (λ y. take i xs ++ y ∷ []) (sym is) in
    let one : IsSeat [] x s = (number, labels, λ r. sym (ap (λ o. is_holder o r) free)) in
    subst (λ (ys : List Executor). AllZip (IsSeat []) ys (seats ++ s ∷ [])) (sym more) (all-snoc (IsSeat []) (take i xs) seats x s stand one)

-- a `Vec` that was written whole through its slice
pub whole_put : (len : ℕ) (new items : List Seat) → length items ≡ len → length new ≡ length items → take len (new ++ drop (length new) items) ≡ new
whole_put len new items size same =
    ap (λ l. take len (new ++ l)) (drop_all (length new) items (omega (arith, same)))
    ∙ ap (take len) (append-nil new)
    ∙ take_all len new (omega (arith, size, same))
