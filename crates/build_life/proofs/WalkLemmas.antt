-- What the history of a life tells: which events came and why, which claims were given, and how it was stopped.
use Rattle.std.proofs.Common.{◌≡◌, ◌⊎◌, ◌∙◌, inl, inr, ℕ, Bool, true, false, List, [], ◌∷◌, ◌++◌, Option, Some, None, Result, Ok, Err, refl, sym, ap, subst, append_assoc, append-nil, arith, lit≤}
use Rattle.std.specs.Prelude.{fold, IsSomeAnd, nat_eq, not, ◌&&◌, if◌then◌else◌}
use Rattle.std.specs.List.{AllByRecursion as AllAre}
use Rattle.std.proofs.lemmas.List.Sums.{fold-append}
use Rattle.std.proofs.Math.Logic.{∥∥₁_elim, ∥∥₁_map, ∥∥₁_prop}
use Rattle.journal_core.specs.declared.faults.TakeFault.{TakeFault}
use Rattle.journal_core.specs.declared.faults.TakeFault.TheVariants.{Memory, Disk, Full, Stopped}
use Rattle.agent_worker.specs.declared.gate.Claim.{Claim}
use Rattle.agent_worker.specs.declared.gate.Claim.TheVariants as claim
use Rattle.agent_worker.specs.declared.gate.Heard.{Heard}
use Rattle.agent_worker.specs.declared.gate.Heard.TheVariants.{Decided, Skipped}
use Rattle.agent_worker.specs.Gate.{Claimed as ClaimedTask}
use Rattle.build_store.specs.Lower.build_core.Builds.{Parts, StandsFor, setting_in, standing_of}
use Rattle.build_store.specs.Lower.build_core.Phases.{has_begun}
use Rattle.build_requests.specs.Waiting.{input_of}
use Rattle.build_store.proofs.Lower.durable_build.Cleared.{world_clears}
use Rattle.build_store.proofs.Lower.durable_build.OpenLemmas.{begun_all}
use Rattle.launch_laws.specs.ManyTurns.{InLife}
use Rattle.model_run.specs.declared.event.Event.{Event}
use Rattle.model_run.specs.declared.event.Event.TheVariants.{Start, Granted, Output, Exited, Lost, Decided as DecidedEvent}
use Rattle.model_run.specs.declared.request.OpenRequest.{OpenRequest}
use Rattle.model_run.specs.declared.request.Request.{Request}
use Rattle.model_run.specs.declared.request.Request.TheVariants.{Node as NodeRequest, Task as TaskRequest, Input as InputRequest}
use Rattle.model_run.specs.declared.taken.Taken.{Taken}
use Rattle.model_run.specs.declared.taken.Taken.TheVariants.{Accepted, NotOpen, WrongPlace, Finished}
use Rattle.model_run.specs.Below.{Small}
use Rattle.model_run.specs.Terms.{term}
use Rattle.model_syntax.specs.TreeNodes.{tree_node}
use Rattle.model_run.proofs.DueLaws.{none_due as none_accepted}
use Rattle.model_run.specs.Fitting.{Some_of}
use Rattle.model_run.specs.Grants.{grant}
use Rattle.model_run.specs.Requests.{IsTaskOf, RunsOn}
use Rattle.model_run.specs.State.{Setting}
use Rattle.model_run.specs.Taking.{Standing}
use Rattle.model_run.specs.World as W
use Rattle.program_lock.specs.Legal.{IsRun, IsLegal}
use Rattle.build_store.specs.Lower.durable_build.Settings.{IsProper}
use Rattle.build_life.proofs.Decisions.{decided, grant_accepted}
use Rattle.settle_laws.specs.Stances.{Stance}
use Rattle.build_store.specs.Lower.store_laws.Store.{grant_of}
use Rattle.build_store.proofs.Lower.store_laws.Stories.{world-more}
use Rattle.member_turns.specs.Lower.locked_build.declared.ask.Ask.{Ask}
use Rattle.member_turns.specs.Lower.locked_build.declared.ask.Ask.TheVariants as ask
use Rattle.member_turns.specs.Lower.locked_build.declared.ask.Reply.{Reply}
use Rattle.member_turns.specs.Lower.locked_build.declared.ask.Reply.TheVariants as reply
use Rattle.member_turns.specs.Lower.locked_build.declared.ask.Entry.{Entry}
use Rattle.member_turns.specs.Lower.locked_build.declared.ask.Entry.TheVariants.{Took, Claimed, Line, Failed}
use Rattle.member_turns.specs.Lower.locked_build.Claims.{ClaimSays, first_free, is_free, is_task_of}
use Rattle.member_turns.specs.Lower.locked_build.Grants.{Grants, TakeSays, none_due, granted, refused, not_found}
use Rattle.member_turns.specs.Lower.locked_build.Hearing as hearing
use Rattle.member_turns.specs.Lower.locked_build.Hearing.{AnswerSays, IsSkipped}
use Rattle.member_turns.specs.Lower.locked_build.Histories.{tooks, kept_fault, lines, is_claimed}
use Rattle.member_turns.specs.Lower.locked_build.Says.{Answers, SaysAt, Says}
use Rattle.member_turns.specs.Lower.locked_build.Showing.{answer_of, due, IsNext, IsSettled, IsShown}
use Rattle.member_turns.proofs.Lower.locked_build.HistoryLaws.{tooks-append, kept_fault-append, no_fault}
use Rattle.member_turns.proofs.Lower.locked_build.WorldLaws.{same_standing, same_answer, same_due}
use Rattle.member_turns.specs.Tales.{is_grant, claimed_of}
use Rattle.member_turns.specs.Coming.{BehindItsLine, Came, EachIs, FailedSo, is_decision}
use Rattle.member_turns.proofs.PartLemmas.{all_append, all_map}
use Rattle.member_turns.proofs.TaleLemmas.{claimed-append, lines-append, grants_silent}
use Rattle.build_store.specs.Lives.{IsNext as ComesNext}
use Rattle.build_life.specs.Going.{Decides, IsPassedOver, no_answer, nothing_open, Comes, by_grant, by_report, by_line, GoesBy, begins, takes, passes}

pub all_front : {A : Type 0} (P : A → Type 0) (xs ys : List A) → AllAre P (xs ++ ys) → AllAre P xs
all_front P [] ys all = tt
all_front P (x ∷ xs) ys all = (all.0, all_front P xs ys all.1)

pub all_behind : {A : Type 0} (P : A → Type 0) (xs ys : List A) → AllAre P (xs ++ ys) → AllAre P ys
all_behind P [] ys all = all
all_behind P (x ∷ xs) ys all = all_behind P xs ys all.1

some_number : (a b : ℕ) → Some a ≡ Some b → a ≡ b
some_number a b e = cc

no_number : (a : ℕ) → None ≡ Some a → ⊥
no_number a e = cc

either_end : (b : Bool) → (b ≡ true) ⊎ (b ≡ false)
either_end true = inl refl
either_end false = inr refl

some_or_none : (o : Option (ℕ × ℕ)) → (o ≡ None) ⊎ ((request : ℕ) × (executor : ℕ) × (o ≡ Some (request, executor)))
some_or_none None = inl refl
some_or_none (Some (request, executor)) = inr (request, executor, refl)

same_number : (a b : ℕ) → nat_eq a b ≡ true → a ≡ b
same_number a b is = grind (arith, is)

no_pair : (p : ℕ × ℕ) → None ≡ Some p → ⊥
no_pair p e = cc

none_request : (r : OpenRequest) → None ≡ Some r → ⊥
none_request r e = cc

same_request : (q r : OpenRequest) → Some q ≡ Some r → q ≡ r
same_request q r e = cc

both_true : (a b : Bool) → (a && not b) ≡ true → a ≡ true
both_true true b is = refl
both_true false b is = absurd (cc)

runs_on : (x : ℕ) (q : Request) → is_task_of x q ≡ true → RunsOn x q
runs_on x (TaskRequest executor workspace folder env script status keep_out taken out) is = same_number executor x is
runs_on x (NodeRequest label) is = absurd (cc)
runs_on x (InputRequest id) is = absurd (cc)

-- an event that explains itself as a grant, or is explained
abbrev pub IsGrantOr : (Event → Type 0) → Event → Type 0
IsGrantOr Reported e = (is_grant e ≡ true) ⊎ Reported e

not_grant : (Reported : Event → Type 0) (e : Event) → is_grant e ≡ false → IsGrantOr Reported e → Reported e
not_grant Reported e other (inl is) = let bad : true ≡ false = sym is ∙ other in absurd (cc)
not_grant Reported e other (inr is) = is

-- What a fault that stopped a life is of: `Memory` of no event; `Disk` and `Full` of the event that came next.
abbrev pub IsFaultOf : Setting → List Event → TakeFault → Option Event → Type 0
IsFaultOf setting events Memory of = of ≡ None
IsFaultOf setting events Disk of = IsSomeAnd of (λ e. ComesNext setting events e × ((heard : List (List ℕ)) × Comes setting (λ x. Unit {0}) events e heard))
IsFaultOf setting events (Full len add) of = IsSomeAnd of (λ e. ComesNext setting events e × ((heard : List (List ℕ)) × Comes setting (λ x. Unit {0}) events e heard))
IsFaultOf setting events Stopped of = ⊥

-- the last entry of a history
abbrev pub last_from : Entry → List Entry → Entry
last_from x [] = x
last_from x (y ∷ ys) = last_from y ys

abbrev pub last_is : List Entry → Option Entry
last_is [] = None
last_is (x ∷ xs) = Some (last_from x xs)

last_behind : (z : Entry) (h : List Entry) (x : Entry) (xs : List Entry) → last_from z (h ++ x ∷ xs) ≡ last_from x xs
last_behind z [] x xs = refl
last_behind z (y ∷ h) x xs = last_behind y h x xs

last-append : (h : List Entry) (x : Entry) (xs : List Entry) → last_is (h ++ x ∷ xs) ≡ Some (last_from x xs)
last-append [] x xs = refl
last-append (y ∷ h) x xs = ap (λ (z : Entry). Some z) (last_behind y h x xs)

same_entry : (x y : Entry) → Some x ≡ Some y → x ≡ y
same_entry x y is = cc

none_entry : (x : Entry) → None ≡ Some x → ⊥
none_entry x is = cc

-- an entry that is no line is not the last line
no_last_line : (h : List Entry) (x : Entry) (xs : List Entry) → ((line : List ℕ) → last_from x xs ≡ Line line → ⊥) → (line : List ℕ) → last_is (h ++ x ∷ xs) ≡ Some (Line line) → ⊥
no_last_line h x xs other line is = other line (same_entry (last_from x xs) (Line line) (sym (last-append h x xs) ∙ is))

-- what holds of each entry of two lists
each_first : (P : List Entry → Entry → Type 0) (before xs ys : List Entry) → EachIs P before (xs ++ ys) → EachIs P before xs
each_first P before [] ys each = tt
each_first P before (x ∷ xs) ys each = (each.0, each_first P (before ++ x ∷ []) xs ys each.1)

each_rest : (P : List Entry → Entry → Type 0) (before xs ys : List Entry) → EachIs P before (xs ++ ys) → EachIs P (before ++ xs) ys
each_rest P before [] ys each = subst (λ (es : List Entry). EachIs P es ys) (sym (append-nil before)) each
each_rest P before (x ∷ xs) ys each = subst (λ (es : List Entry). EachIs P es ys) (append_assoc before (x ∷ []) xs) (each_rest P (before ++ x ∷ []) xs ys each.1)

pub kept_first : (xs ys : List Entry) → kept_fault (xs ++ ys) ≡ None → kept_fault xs ≡ None
kept_first [] ys none = refl
kept_first (Took e ∷ xs) ys none = kept_first xs ys none
kept_first (Claimed executor task keep_out kept_log kept_out ∷ xs) ys none = kept_first xs ys none
kept_first (Line line ∷ xs) ys none = kept_first xs ys none
kept_first (Failed fault event ∷ xs) ys none = absurd (no_fault fault none)

failed_no_line : (fault : TakeFault) (event : Option Event) (line : List ℕ) → Failed fault event ≡ Line line → ⊥
failed_no_line fault event line is = cc

claimed_no_line : (executor task kept_log kept_out : ℕ) (keep_out : Bool) (line : List ℕ) → Claimed executor task keep_out kept_log kept_out ≡ Line line → ⊥
claimed_no_line executor task kept_log kept_out keep_out line is = cc

took_no_line : (e : Event) (line : List ℕ) → Took e ≡ Line line → ⊥
took_no_line e line is = cc

same_line : (line other : List ℕ) → Line line ≡ Line other → line ≡ other
same_line line other is = cc

took_same : (line : List ℕ) (e f : Event) (es fs xs : List Entry) → Line line ∷ Took e ∷ es ≡ Line line ∷ xs → xs ≡ Took f ∷ fs → f ≡ e
took_same line e f es fs xs is are = cc

failed_same : (fault : TakeFault) (e f : Event) → Failed fault (Some e) ∷ [] ≡ Failed fault (Some f) ∷ [] → f ≡ e
failed_same fault e f is = cc

-- the first free task of an executor is one of its open tasks
pub found_task : (h : List Entry) (x : ℕ) (rs : List OpenRequest) (r : OpenRequest) → first_free h x rs ≡ Some r → Some_of (λ q. (q.number ≡ r.number) × RunsOn x q.request) rs
found_task h x [] r is = absurd (none_request r is)
found_task h x (q ∷ qs) r is = on (found_task h x qs r) (is_free h x q) refl is
  where
    on : (first_free h x qs ≡ Some r → Some_of (λ k. (k.number ≡ r.number) × RunsOn x k.request) qs) → (b : Bool) → is_free h x q ≡ b → (if b then Some q else first_free h x qs) ≡ Some r → Some_of (λ k. (k.number ≡ r.number) × RunsOn x k.request) (q ∷ qs)
    on later true free found = inl (ap (λ (k : OpenRequest). k.number) (same_request q r found), runs_on x q.request (both_true (is_task_of x q.request) (is_claimed q.number h) free))
    on later false free found = inr (later found)

module _ {T : Type 0} (stance : T → Stance) (setting : Setting) (proper : IsProper setting) where
  pub of_tree : setting.script ≡ term 0 (tree_node proper.tree)
  of_tree = ap (λ (s : Setting). s.script) proper.is

  pub small : Small setting
  small = subst Small (sym proper.is) (lit≤ tt)

  -- the build stands for that of these events, which has begun
  pub record ShowsAll (b : Parts T) (events : List Event) : Type 0 where
    pub same : setting_in b ≡ setting
    pub begun : (W.world_in setting events).started ≡ true
    pub stands : StandsFor stance b (W.world_in setting events)

  module _ (b : Parts T) (events : List Event) (all : ShowsAll b events) where
    abbrev w : W.Build
    w = W.world_in setting events

    phase_begun : has_begun b.phase ≡ true
    phase_begun = sym all.stands.started ∙ all.begun

    standing_is : W.standing setting w ≡ standing_of b
    standing_is = subst (λ (s : Setting). StandsFor stance b (W.world_in s events) → W.standing s (W.world_in s events) ≡ standing_of b) all.same
        (λ at. same_standing stance b (W.world_in (setting_in b) events) phase_begun at) all.stands

    pub requests_are : w.shared.requests ≡ b.shared.requests
    requests_are = ap (λ (x : Standing). x.requests) standing_is

    pub answer_is : (e : Event) → W.answer_to setting w e ≡ answer_of b e
    answer_is e = subst (λ (s : Setting). StandsFor stance b (W.world_in s events) → W.answer_to s (W.world_in s events) e ≡ answer_of b e) all.same
        (λ at. same_answer stance b (W.world_in (setting_in b) events) phase_begun at e) all.stands

    pub due_is : W.next_grant setting w ≡ due b
    due_is = subst (λ (s : Setting). StandsFor stance b (W.world_in s events) → W.next_grant s (W.world_in s events) ≡ due b) all.same
        (λ at. same_due stance b (W.world_in (setting_in b) events) phase_begun at) all.stands

    pub accepted_is : (e : Event) → answer_of b e ≡ Accepted → W.answer_to setting w e ≡ Accepted
    accepted_is e is = answer_is e ∙ is

    no_requests : w.ended ≡ true → w.shared.requests ≡ []
    no_requests over = (world_clears setting events over).requests

    -- no grant is due in the world of a settled build
    pub settled_none : IsSettled b → W.next_grant setting w ≡ None
    settled_none settled = by (some_or_none (W.next_grant setting w))
      where
        never : (request executor : ℕ) → W.next_grant setting w ≡ Some (request, executor) → (w.ended ≡ true) ⊎ (w.ended ≡ false) → ⊥
        never request executor is (inl over) = no_pair (request, executor) (ap (λ (rs : List OpenRequest). grant setting.site w.shared.held rs) (sym (no_requests over)) ∙ is)
        never request executor is (inr going) = settled request executor (sym due_is ∙ is) (sym (answer_is (Granted request executor)) ∙ grant_accepted setting proper events all.begun going request executor is)

        by : (W.next_grant setting w ≡ None) ⊎ ((request : ℕ) × (executor : ℕ) × (W.next_grant setting w ≡ Some (request, executor))) → W.next_grant setting w ≡ None
        by (inl none) = none
        by (inr there) = absurd (never there.0 there.1 there.2 (either_end w.ended))

    -- an accepted event of a settled build comes in its order
    order_is : (e : Event) → IsSettled b → answer_of b e ≡ Accepted → W.next_grant setting w ≡ grant_of e
    order_is (Start script agents) settled accepted = settled_none settled
    order_is (Granted request executor) settled accepted = absurd (none_accepted setting (tree_node proper.tree) of_tree small events (settled_none settled) request executor (accepted_is (Granted request executor) accepted))
    order_is (Output task stream place bytes) settled accepted = settled_none settled
    order_is (Exited task code) settled accepted = settled_none settled
    order_is (Lost task why) settled accepted = settled_none settled
    order_is (DecidedEvent request proceed name) settled accepted = settled_none settled

    -- the build behind an event
    pub shows_next : (e : Event) (after : Parts T) → IsNext stance b e after → ShowsAll after (events ++ e ∷ [])
    shows_next e after next = record {
      same = next.setting ∙ all.same;
      begun = begun_all setting events (e ∷ []) all.begun;
      stands = subst (StandsFor stance after) (sym (world-more setting W.unbegun events e))
          (subst (λ (s : Setting). StandsFor stance b (W.world_in s events) → StandsFor stance after (W.after_one s (W.world_in s events) e)) all.same (λ at. next.stands (W.world_in (setting_in b) events) at) all.stands);
    }

    comes_next : (e : Event) → IsSettled b → answer_of b e ≡ Accepted → ComesNext setting events e
    comes_next e settled accepted = record { accepted = accepted_is e accepted; due = order_is e settled accepted }

    -- an event that was asked for
    asked_comes : (Reported : Event → Type 0) (e : Event) → W.next_grant setting w ≡ grant_of e → is_decision e ≡ false → IsGrantOr Reported e → Comes setting Reported events e []
    asked_comes Reported (Start script agents) order other is = by_report (Start script agents) order refl (not_grant Reported (Start script agents) refl is)
    asked_comes Reported (Granted request executor) order other is = by_grant request executor order
    asked_comes Reported (Output task stream place bytes) order other is = by_report (Output task stream place bytes) order refl (not_grant Reported (Output task stream place bytes) refl is)
    asked_comes Reported (Exited task code) order other is = by_report (Exited task code) order refl (not_grant Reported (Exited task code) refl is)
    asked_comes Reported (Lost task why) order other is = by_report (Lost task why) order refl (not_grant Reported (Lost task why) refl is)
    asked_comes Reported (DecidedEvent request proceed name) order other is = absurd (let bad : true ≡ false = other in cc)

    -- an answer line
    pub line_decides : (line : List ℕ) (request : ℕ) (e : Event) → hearing.Decides b line request e → Decides w line e
    line_decides line request e d = record { request = request; answer = d.answer; open_now = ap (input_of d.answer.id) requests_are ∙ d.open_now }

    line_comes : (Reported : Event → Type 0) (line : List ℕ) (request : ℕ) (e : Event) → IsSettled b → hearing.Decides b line request e → Comes setting Reported events e (line ∷ [])
    line_comes Reported line request e settled d = by_line line e (settled_none settled) (line_decides line request e d)

    pub line_passed : (line : List ℕ) → IsSkipped b line → IsPassedOver w line
    line_passed line (hearing.no_answer none) = no_answer none
    line_passed line (hearing.nothing_open proceed id name answers none) = nothing_open proceed id name answers (ap (input_of id) requests_are ∙ none)
    line_passed line (hearing.not_accepted request e d never) = absurd (by (either_end w.ended))
      where
        found : input_of d.answer.id w.shared.requests ≡ Some request
        found = ap (input_of d.answer.id) requests_are ∙ d.open_now

        by : (w.ended ≡ true) ⊎ (w.ended ≡ false) → ⊥
        by (inl over) = no_number request (ap (input_of d.answer.id) (sym (no_requests over)) ∙ found)
        by (inr going) = never (subst (λ (x : Event). answer_of b x ≡ Accepted) (sym d.answer.is)
            (sym (answer_is (DecidedEvent request d.answer.proceed d.answer.name)) ∙ decided setting proper events all.begun going d.answer.id request d.answer.proceed d.answer.name found))

  -- what of a build at the opening is known of one that the history shows
  pub shows_shown : (opening b : Parts T) (before events : List Event) → ShowsAll opening before → IsShown stance opening events b → ShowsAll b (before ++ events)
  shows_shown opening b before events all shown = record {
    same = shown.setting ∙ all.same;
    begun = begun_all setting before events all.begun;
    stands = subst (StandsFor stance b) (sym (fold-append (W.after_one setting) W.unbegun before events))
        (subst (λ (s : Setting). StandsFor stance opening (W.world_in s before) → StandsFor stance b (fold (W.after_one s) (W.world_in s before) events)) all.same (λ at. shown.stands (W.world_in (setting_in opening) before) at) all.stands);
  }

  module _ (Reported : Event → Type 0) (before : List Event) where
    abbrev Goes : List Event → List (List ℕ) → Type 0
    Goes events lines = GoesBy setting Reported before events lines

    same_goes : (es fs : List Event) (ls ms : List (List ℕ)) → es ≡ fs → ls ≡ ms → Goes es ls → Goes fs ms
    same_goes es fs ls ms events lines g = subst (λ (x : List Event). Goes x ms) events (subst (λ (l : List (List ℕ)). Goes es l) lines g)

    -- the grants behind an event
    pub grants_go : {b : Parts T} {entries : List Entry} → Grants stance b entries → (es : List Event) (ls : List (List ℕ)) → ShowsAll b es → Goes es ls → Goes (es ++ tooks entries) (ls ++ lines entries)
    grants_go (none_due settled) es ls all g = same_goes es (es ++ []) ls (ls ++ []) (sym (append-nil es)) (sym (append-nil ls)) g
    grants_go {b} (granted {after = after} {entries = entries} request executor is next more) es ls all g =
        let e : Event = Granted request executor in
        let one : Goes (es ++ e ∷ []) (ls ++ []) = takes e g (by_grant request executor (due_is b es all ∙ is)) (accepted_is b es all e next.accepted) in
        same_goes ((es ++ e ∷ []) ++ tooks entries) (es ++ e ∷ tooks entries) ((ls ++ []) ++ lines entries) (ls ++ lines entries) (append_assoc es (e ∷ []) (tooks entries)) (ap (λ (l : List (List ℕ)). l ++ lines entries) (append-nil ls))
        (grants_go more (es ++ e ∷ []) (ls ++ []) (shows_next b es all e after next) one)
    grants_go {b} (refused request executor Memory is may) es ls all g = same_goes es (es ++ []) ls (ls ++ []) (sym (append-nil es)) (sym (append-nil ls)) g
    grants_go {b} (refused request executor Disk is may) es ls all g = same_goes es (es ++ []) ls (ls ++ []) (sym (append-nil es)) (sym (append-nil ls)) g
    grants_go {b} (refused request executor (Full len add) is may) es ls all g = same_goes es (es ++ []) ls (ls ++ []) (sym (append-nil es)) (sym (append-nil ls)) g
    grants_go {b} (refused request executor Stopped is may) es ls all g = absurd may
    grants_go not_found es ls all g = same_goes es (es ++ []) ls (ls ++ []) (sym (append-nil es)) (sym (append-nil ls)) g

    -- no grant is a line
    grants_last : {b : Parts T} {entries : List Entry} → Grants stance b entries → (e : Event) (line : List ℕ) → last_from (Took e) entries ≡ Line line → ⊥
    grants_last (none_due settled) e line is = took_no_line e line is
    grants_last (granted request executor due next more) e line is = grants_last more (Granted request executor) line is
    grants_last (refused request executor Memory due may) e line is = failed_no_line Memory None line is
    grants_last (refused request executor Disk due may) e line is = failed_no_line Disk (Some (Granted request executor)) line is
    grants_last (refused request executor (Full len add) due may) e line is = failed_no_line (Full len add) (Some (Granted request executor)) line is
    grants_last (refused request executor Stopped due may) e line is = absurd may
    grants_last not_found e line is = failed_no_line Memory None line is

    -- How a history was stopped: by its last entry, the first that tells a fault.
    pub record StoppedBy (h : List Entry) : Type 0 where
      pub front : List Entry
      pub fault : TakeFault
      pub event : Option Event
      pub is : h ≡ front ++ Failed fault event ∷ []
      pub none : kept_fault front ≡ None
      pub of : IsFaultOf setting (before ++ tooks front) fault event

    -- where it stands: it goes on, or a fault stopped it
    abbrev pub Stops : List Entry → Type 0
    Stops h = (kept_fault h ≡ None) ⊎ StoppedBy h

    still_none : (h new : List Entry) → kept_fault h ≡ None → kept_fault new ≡ None → kept_fault (h ++ new) ≡ None
    still_none h new none more = kept_fault-append h new none ∙ more

    stops_here : (h : List Entry) (fault : TakeFault) (event : Option Event) → kept_fault h ≡ None → IsFaultOf setting (before ++ tooks h) fault event → Stops (h ++ Failed fault event ∷ [])
    stops_here h fault event none of = inr (record { front = h; fault = fault; event = event; is = refl; none = none; of = of })

    same_stops : (h k : List Entry) → h ≡ k → Stops h → Stops k
    same_stops h k is s = subst Stops is s

    events_then : (h : List Entry) (es new : List Entry) → before ++ tooks (h ++ es) ≡ (before ++ tooks h) ++ tooks es
    events_then h es new = ap (λ (xs : List Event). before ++ xs) (tooks-append h es) ∙ sym (append_assoc before (tooks h) (tooks es))

    -- the grants behind what has happened so far
    pub grants_stop : {b : Parts T} {entries : List Entry} → Grants stance b entries → (h : List Entry) → kept_fault h ≡ None → ShowsAll b (before ++ tooks h) → Stops (h ++ entries)
    grants_stop (none_due settled) h none all = inl (still_none h [] none refl)
    grants_stop {b} (granted {after = after} {entries = entries} request executor is next more) h none all =
        let e : Event = Granted request executor in
        let h' : List Entry = h ++ Took e ∷ [] in
        same_stops (h' ++ entries) (h ++ Took e ∷ entries) (append_assoc h (Took e ∷ []) entries)
        (grants_stop more h' (still_none h (Took e ∷ []) none refl) (subst (ShowsAll after) (sym (events_then h (Took e ∷ []) entries)) (shows_next b (before ++ tooks h) all e after next)))
    grants_stop {b} (refused request executor Memory is may) h none all = stops_here h Memory None none refl
    grants_stop {b} (refused request executor Disk is may) h none all =
        let e : Event = Granted request executor in
        let due_so : W.next_grant setting (W.world_in setting (before ++ tooks h)) ≡ Some (request, executor) = due_is b (before ++ tooks h) all ∙ is in
        stops_here h Disk (Some e) none (record { accepted = accepted_is b (before ++ tooks h) all e may; due = due_so }, ([], by_grant request executor due_so))
    grants_stop {b} (refused request executor (Full len add) is may) h none all =
        let e : Event = Granted request executor in
        let due_so : W.next_grant setting (W.world_in setting (before ++ tooks h)) ≡ Some (request, executor) = due_is b (before ++ tooks h) all ∙ is in
        stops_here h (Full len add) (Some e) none (record { accepted = accepted_is b (before ++ tooks h) all e may.0; due = due_so }, ([], by_grant request executor due_so))
    grants_stop {b} (refused request executor Stopped is may) h none all = absurd may
    grants_stop not_found h none all = stops_here h Memory None none refl

    abbrev GivenIn : List Event → ClaimedTask → Type 0
    GivenIn taken c = InLife setting before taken c.executor c.task

    abbrev Back : List Entry → List ℕ → Type 0
    Back h line = (ls : List (List ℕ)) × (lines h ≡ ls ++ line ∷ []) × Goes (before ++ tooks h) ls

    -- What a history tells so far.
    pub record At (h : List Entry) : Type 0 where
      pub goes : Goes (before ++ tooks h) (lines h)
      pub stops : Stops h
      pub given : AllAre (GivenIn (tooks h)) (claimed_of h)
      -- what stood before a line that is the last entry
      pub back : (line : List ℕ) → last_is h ≡ Some (Line line) → Back h line

    given_more : (taken more : List Event) (c : ClaimedTask) → GivenIn taken c → GivenIn (taken ++ more) c
    given_more taken more c g = record { front = g.front; rest = g.rest ++ more; is = ap (λ (es : List Event). es ++ more) g.is ∙ append_assoc g.front g.rest more; has_begun = g.has_begun; task_of = g.task_of }

    given_then : (h new : List Entry) → AllAre (GivenIn (tooks h)) (claimed_of h) → AllAre (GivenIn (tooks h ++ tooks new)) (claimed_of new) → AllAre (GivenIn (tooks (h ++ new))) (claimed_of (h ++ new))
    given_then h new old more =
        subst (λ (es : List Event). AllAre (GivenIn es) (claimed_of (h ++ new))) (sym (tooks-append h new))
        (subst (AllAre (GivenIn (tooks h ++ tooks new))) (sym (claimed-append h new))
        (all_append (GivenIn (tooks h ++ tooks new)) (claimed_of h) (claimed_of new) (all_map (GivenIn (tooks h)) (GivenIn (tooks h ++ tooks new)) (claimed_of h) (given_more (tooks h) (tooks new)) old) more))

    -- a step that tells of this
    at_then : (h new : List Entry) → At h → Goes ((before ++ tooks h) ++ tooks new) (lines h ++ lines new) → Stops (h ++ new) → AllAre (GivenIn (tooks h ++ tooks new)) (claimed_of new)
        → ((line : List ℕ) → last_is (h ++ new) ≡ Some (Line line) → Back (h ++ new) line) → At (h ++ new)
    at_then h new at goes stops given back = record {
      goes = same_goes ((before ++ tooks h) ++ tooks new) (before ++ tooks (h ++ new)) (lines h ++ lines new) (lines (h ++ new)) (sym (events_then h new [])) (sym (lines-append h new)) goes;
      stops = stops;
      given = given_then h new at.given given;
      back = back;
    }

    -- an ask that adds nothing
    at_same : (h new : List Entry) → At h → new ≡ [] → At (h ++ new)
    at_same h new at is = subst (λ (es : List Entry). At (h ++ es)) (sym is) (subst At (sym (append-nil h)) at)

    -- a fault alone
    at_failed : (h new : List Entry) (fault : TakeFault) (event : Option Event) → At h → kept_fault h ≡ None → new ≡ Failed fault event ∷ [] → IsFaultOf setting (before ++ tooks h) fault event → At (h ++ new)
    at_failed h new fault event at none is of = subst (λ (es : List Entry). At (h ++ es)) (sym is)
        (at_then h (Failed fault event ∷ []) at (same_goes (before ++ tooks h) ((before ++ tooks h) ++ []) (lines h) (lines h ++ []) (sym (append-nil (before ++ tooks h))) (sym (append-nil (lines h))) at.goes)
        (stops_here h fault event none of) tt (λ line last. absurd (no_last_line h (Failed fault event) [] (λ l bad. failed_no_line fault event l bad) line last)))

    module _ (h : List Entry) (at : At h) (none : kept_fault h ≡ None) (b : Parts T) (all : ShowsAll b (before ++ tooks h)) where
      abbrev now : List Event
      now = before ++ tooks h

      -- an event that was taken, with the grants behind it, and the line that was heard for it
      took_at : (e : Event) (after : Parts T) (entries : List Entry) (heard : List (List ℕ)) (front : List Entry) → tooks front ≡ [] → lines front ≡ heard → claimed_of front ≡ [] → kept_fault front ≡ None
          → IsNext stance b e after → Grants stance after entries → Goes (now ++ e ∷ []) (lines h ++ heard) → At (h ++ (front ++ Took e ∷ entries))
      took_at e after entries heard front no_events its_lines no_claims no_faults next grants one =
          let mid : List Entry = h ++ (front ++ Took e ∷ []) in
          let new : List Entry = front ++ Took e ∷ entries in
          let events : tooks new ≡ e ∷ tooks entries = tooks-append front (Took e ∷ entries) ∙ ap (λ (es : List Event). es ++ e ∷ tooks entries) no_events in
          let one_event : tooks (front ++ Took e ∷ []) ≡ e ∷ [] = tooks-append front (Took e ∷ []) ∙ ap (λ (es : List Event). es ++ e ∷ []) no_events in
          let said : lines new ≡ heard ++ lines entries = lines-append front (Took e ∷ entries) ∙ ap (λ (l : List (List ℕ)). l ++ lines entries) its_lines in
          let claims : claimed_of new ≡ [] = claimed-append front (Took e ∷ entries) ∙ ap (λ (l : List ClaimedTask). l ++ claimed_of entries) no_claims ∙ (grants_silent grants).claimed in
          let shown : ShowsAll after (now ++ e ∷ []) = shows_next b now all e after next in
          let more : Goes ((now ++ e ∷ []) ++ tooks entries) ((lines h ++ heard) ++ lines entries) = grants_go grants (now ++ e ∷ []) (lines h ++ heard) shown one in
          let mid_none : kept_fault mid ≡ None = still_none h (front ++ Took e ∷ []) none (kept_fault-append front (Took e ∷ []) no_faults) in
          let mid_shown : ShowsAll after (before ++ tooks mid) = subst (ShowsAll after) (ap (λ (es : List Event). now ++ es) (sym one_event) ∙ sym (events_then h (front ++ Took e ∷ []) [])) shown in
          let order : mid ++ entries ≡ h ++ new = append_assoc h (front ++ Took e ∷ []) entries ∙ ap (λ (es : List Entry). h ++ es) (append_assoc front (Took e ∷ []) entries) in
          at_then h new at
          (same_goes ((now ++ e ∷ []) ++ tooks entries) (now ++ tooks new) ((lines h ++ heard) ++ lines entries) (lines h ++ lines new)
          (append_assoc now (e ∷ []) (tooks entries) ∙ ap (λ (es : List Event). now ++ es) (sym events)) (append_assoc (lines h) heard (lines entries) ∙ ap (λ (l : List (List ℕ)). lines h ++ l) (sym said)) more)
          (same_stops (mid ++ entries) (h ++ new) order (grants_stop grants mid mid_none mid_shown))
          (subst (AllAre (GivenIn (tooks h ++ tooks new))) (sym claims) tt)
          (λ line last. absurd (no_last_line (h ++ front) (Took e) entries (grants_last grants e) line (ap last_is (append_assoc h front (Took e ∷ entries)) ∙ last)))

      comes_then : (e : Event) (heard : List (List ℕ)) → answer_of b e ≡ Accepted → Comes setting Reported now e heard → Goes (now ++ e ∷ []) (lines h ++ heard)
      comes_then e heard accepted comes = takes e at.goes comes (accepted_is b now all e accepted)

      -- What is known of an event that is a decision: it comes by its line.
      abbrev Deciding : Event → Result Taken TakeFault → Type 0
      Deciding e (Ok Accepted) = is_decision e ≡ true → Goes (now ++ e ∷ []) (lines h)
      Deciding e (Ok NotOpen) = Unit {0}
      Deciding e (Ok (WrongPlace kept)) = Unit {0}
      Deciding e (Ok Finished) = Unit {0}
      Deciding e (Err Memory) = Unit {0}
      Deciding e (Err Disk) = is_decision e ≡ true → (heard : List (List ℕ)) × Comes setting (λ x. Unit {0}) now e heard
      Deciding e (Err (Full len add)) = is_decision e ≡ true → (heard : List (List ℕ)) × Comes setting (λ x. Unit {0}) now e heard
      Deciding e (Err Stopped) = Unit {0}

      taken_goes : (e : Event) → answer_of b e ≡ Accepted → IsSettled b → IsGrantOr Reported e → (is_decision e ≡ true → Goes (now ++ e ∷ []) (lines h)) → Goes (now ++ e ∷ []) (lines h ++ [])
      taken_goes e accepted settled here decided = by (is_decision e) refl
        where
          by : (d : Bool) → is_decision e ≡ d → Goes (now ++ e ∷ []) (lines h ++ [])
          by true is = same_goes (now ++ e ∷ []) (now ++ e ∷ []) (lines h) (lines h ++ []) refl (sym (append-nil (lines h))) (decided is)
          by false is = comes_then e [] accepted (asked_comes b now all Reported e (order_is b now all e settled accepted) is here)

      failed_comes : (e : Event) → answer_of b e ≡ Accepted → IsSettled b → (is_decision e ≡ true → (heard : List (List ℕ)) × Comes setting (λ x. Unit {0}) now e heard) → (heard : List (List ℕ)) × Comes setting (λ x. Unit {0}) now e heard
      failed_comes e accepted settled decided = by (is_decision e) refl
        where
          by : (d : Bool) → is_decision e ≡ d → (heard : List (List ℕ)) × Comes setting (λ x. Unit {0}) now e heard
          by true is = decided is
          by false is = ([], asked_comes b now all (λ x. Unit {0}) e (order_is b now all e settled accepted) is (inr tt))

      -- The table: what each ask makes of it.
      take_at : (e : Event) (r : Result Taken TakeFault) (new : List Entry) → IsSettled b → TakeSays stance b e r new → AllAre (IsGrantOr Reported) (tooks new) → Deciding e r → At (h ++ new)
      take_at e (Ok Accepted) new settled says explained decided =
          let entries : List Entry = says.1 in
          let here : IsGrantOr Reported e = (subst (λ (es : List Entry). AllAre (IsGrantOr Reported) (tooks es)) says.4 explained).0 in
          subst (λ (es : List Entry). At (h ++ es)) (sym says.4)
          (took_at e says.0 entries [] [] refl refl refl refl says.2 says.3 (taken_goes e says.2.accepted settled here decided))
      take_at e (Ok NotOpen) new settled says explained decided = at_same h new at says.1
      take_at e (Ok (WrongPlace kept)) new settled says explained decided = at_same h new at says.1
      take_at e (Ok Finished) new settled says explained decided = at_same h new at says.1
      take_at e (Err Memory) new settled says explained decided = at_failed h new Memory None at none says.1 refl
      take_at e (Err Disk) new settled says explained decided = at_failed h new Disk (Some e) at none says.1 (comes_next b now all e settled says.0, failed_comes e says.0 settled decided)
      take_at e (Err (Full len add)) new settled says explained decided = at_failed h new (Full len add) (Some e) at none says.1 (comes_next b now all e settled says.0.0, failed_comes e says.0.0 settled decided)
      take_at e (Err Stopped) new settled says explained decided = absurd says.0

      answer_at : (line : List ℕ) (r : Result Heard TakeFault) (new : List Entry) → IsSettled b → AnswerSays stance b line r new → At (h ++ new)
      answer_at line (Ok (Decided request)) new settled says =
          let taken = says.3 in
          subst (λ (es : List Entry). At (h ++ es)) (sym (says.4 ∙ ap (λ (es : List Entry). Line line ∷ es) taken.4))
          (took_at says.0 taken.0 taken.1 (line ∷ []) (Line line ∷ []) refl refl refl refl taken.2 taken.3 (comes_then says.0 (line ∷ []) taken.2.accepted (line_comes b now all Reported line request says.0 settled says.2)))
      answer_at line (Ok Skipped) new settled says = subst (λ (es : List Entry). At (h ++ es)) (sym says.1)
          (at_then h (Line line ∷ []) at (same_goes now (now ++ []) (lines h ++ line ∷ []) (lines h ++ line ∷ []) (sym (append-nil now)) refl (passes line at.goes (settled_none b now all settled) (line_passed b now all line says.0)))
          (inl (still_none h (Line line ∷ []) none refl)) tt (λ other last. (
            lines h,
            lines-append h (Line line ∷ []) ∙ ap (λ (l : List ℕ). lines h ++ l ∷ []) (same_line line other (same_entry (Line line) (Line other) (sym (last-append h (Line line) []) ∙ last))),
            subst (λ (es : List Event). Goes (before ++ es) (lines h)) (sym (tooks-append h (Line line ∷ []) ∙ append-nil (tooks h))) at.goes,
          )))
      answer_at line (Err Memory) new settled says = at_failed h new Memory None at none says refl
      answer_at line (Err Disk) new settled says =
          at_failed h new Disk (Some says.1) at none says.3.1 (comes_next b now all says.1 settled says.3.0, (line ∷ [], line_comes b now all (λ x. Unit {0}) line says.0 says.1 settled says.2))
      answer_at line (Err (Full len add)) new settled says =
          at_failed h new (Full len add) (Some says.1) at none says.3.1 (comes_next b now all says.1 settled says.3.0.0, (line ∷ [], line_comes b now all (λ x. Unit {0}) line says.0 says.1 settled says.2))
      answer_at line (Err Stopped) new settled says = absurd says.3.0

      claim_at : (x : ℕ) (c : Claim) (new : List Entry) → ClaimSays b.shared.requests h x c new → At (h ++ new)
      claim_at x (claim.Order order) new says =
          let task : Some_of (λ q. (q.number ≡ says.0.number) × RunsOn x q.request) b.shared.requests = found_task h x b.shared.requests says.0 says.1 in
          let there : IsTaskOf x says.0.number (W.world_in setting now).shared = subst (λ (rs : List OpenRequest). Some_of (λ q. (q.number ≡ says.0.number) × RunsOn x q.request) rs) (sym (requests_are b now all)) task in
          let entry : Entry = Claimed x says.0.number order.keep_out order.kept_log order.kept_out in
          subst (λ (es : List Entry). At (h ++ es)) (sym says.3)
          (at_then h (entry ∷ []) at (same_goes now (now ++ []) (lines h) (lines h ++ []) (sym (append-nil now)) (sym (append-nil (lines h))) at.goes) (inl (still_none h (entry ∷ []) none refl))
          (record { front = tooks h; rest = []; is = refl; has_begun = all.begun; task_of = there }, tt)
          (λ line last. absurd (no_last_line h entry [] (λ l bad. claimed_no_line x says.0.number order.kept_log order.kept_out order.keep_out l bad) line last)))
      claim_at x (claim.Idle busy) new says = at_same h new at says.3
      claim_at x claim.Rest new says = at_same h new at says.2
      claim_at x claim.Stopped new says = absurd says
      claim_at x claim.Memory new says = at_same h new at says

    module _ (opening : Parts T) (opened : ShowsAll opening before) where
      shown_all : (h : List Entry) (b : Parts T) → IsShown stance opening (tooks h) b → ShowsAll b (before ++ tooks h)
      shown_all h b shown = shows_shown opening b before (tooks h) opened shown

      abbrev Its : List Entry → Ask → Reply → List Entry → Type 0
      Its history a r new = Says stance opening history a r new

      -- what a state said where no fault is kept
      said_none : (h : List Entry) → kept_fault h ≡ None → (a : Ask) (r : Reply) (new : List Entry) → Says stance opening h a r new → Answers stance opening h a r new
      said_none h none a r new says = subst (λ (f : Option TakeFault). SaysAt stance opening h f a r new) none says

      -- a decision that was taken came by its line
      decided_goes : (h : List Entry) (at : At h) (none : kept_fault h ≡ None) (e : Event) (b : Parts T) (all : ShowsAll b (before ++ tooks h)) → answer_of b e ≡ Accepted → BehindItsLine Its h e → ∥ Goes ((before ++ tooks h) ++ e ∷ []) (lines h) ∥₁
      decided_goes h at none e b all accepted w =
          let front_none : kept_fault w.front ≡ None = kept_first w.front (Line w.line ∷ []) (ap kept_fault (sym w.is) ∙ none) in
          let says = said_none w.front front_none (ask.Answer w.line) (reply.Heard (Ok (Decided w.request))) (Line w.line ∷ Took e ∷ w.grants) w.said in
          let decides = says.2.1 in
          let same : decides.0 ≡ e = took_same w.line e decides.0 w.grants decides.3.1 decides.1 decides.4 decides.3.4 in
          let back = at.back w.line (ap last_is w.is ∙ last-append w.front (Line w.line) []) in
          let events : tooks w.front ≡ tooks h = sym (append-nil (tooks w.front)) ∙ sym (tooks-append w.front (Line w.line ∷ [])) ∙ ap tooks (sym w.is) in
          ∥∥₁_map says.1 (λ shown.
          let there : ShowsAll says.0 (before ++ tooks h) = subst (λ (es : List Event). ShowsAll says.0 (before ++ es)) events (shown_all w.front says.0 shown) in
          subst (Goes ((before ++ tooks h) ++ e ∷ [])) (sym back.1)
          (takes e back.2 (subst (λ (x : Event). Comes setting Reported (before ++ tooks h) x (w.line ∷ [])) same (line_comes says.0 (before ++ tooks h) there Reported w.line w.request decides.0 says.2.0 decides.2))
          (accepted_is b (before ++ tooks h) all e accepted)))

      -- and so did one that failed
      LineFor : List Entry → Event → Type 0
      LineFor h e = (heard : List (List ℕ)) × Comes setting (λ x. Unit {0}) (before ++ tooks h) e heard

      line_for : (h : List Entry) (e : Event) (line : List ℕ) (request : ℕ) (event : Event) (b : Parts T) → event ≡ e → ShowsAll b (before ++ tooks h) → IsSettled b → hearing.Decides b line request event → LineFor h e
      unfolding LineFor
      line_for h e line request event b same all settled d =
          (line ∷ [], subst (λ (x : Event). Comes setting (λ x. Unit {0}) (before ++ tooks h) x (line ∷ [])) same (line_comes b (before ++ tooks h) all (λ x. Unit {0}) line request event settled d))

      decided_disk : (h : List Entry) → kept_fault h ≡ None → (e : Event) → FailedSo Its h Disk (Some e) → is_decision e ≡ true → ∥ LineFor h e ∥₁
      decided_disk h none e failed is =
          let w = failed is in
          let says = said_none h none (ask.Answer w.0) (reply.Heard (Err Disk)) (Failed Disk (Some e) ∷ []) w.1 in
          let d = says.2.1 in
          ∥∥₁_map says.1 (λ shown. line_for h e w.0 d.0 d.1 says.0 (failed_same Disk e d.1 d.3.1) (shown_all h says.0 shown) says.2.0 d.2)

      decided_full : (h : List Entry) → kept_fault h ≡ None → (len add : ℕ) (e : Event) → FailedSo Its h (Full len add) (Some e) → is_decision e ≡ true → ∥ LineFor h e ∥₁
      decided_full h none len add e failed is =
          let w = failed is in
          let says = said_none h none (ask.Answer w.0) (reply.Heard (Err (Full len add))) (Failed (Full len add) (Some e) ∷ []) w.1 in
          let d = says.2.1 in
          ∥∥₁_map says.1 (λ shown. line_for h e w.0 d.0 d.1 says.0 (failed_same (Full len add) e d.1 d.3.1) (shown_all h says.0 shown) says.2.0 d.2)

      -- a promise under a condition that can be tried is known where what it promises is
      if_known : (X : Type 0) (d : Bool) → (d ≡ true → ∥ X ∥₁) → ∥ (d ≡ true → X) ∥₁
      if_known X true known = ∥∥₁_map (known refl) (λ x is. x)
      if_known X false known = ∣ (λ is. let bad : false ≡ true = is in absurd (cc)) ∣₁

      take_known : (h : List Entry) (at : At h) (none : kept_fault h ≡ None) (b : Parts T) (all : ShowsAll b (before ++ tooks h)) (e : Event) (r : Result Taken TakeFault) (new : List Entry) → TakeSays stance b e r new → EachIs (Came Its) h new
          → ∥ Deciding h at none b all e r ∥₁
      unfolding LineFor
      take_known h at none b all e (Ok Accepted) new says came =
          let here = (subst (EachIs (Came Its) h) says.4 came).0 in
          if_known (Goes ((before ++ tooks h) ++ e ∷ []) (lines h)) (is_decision e) (λ is. decided_goes h at none e b all says.2.accepted (here is))
      take_known h at none b all e (Ok NotOpen) new says came = ∣ tt ∣₁
      take_known h at none b all e (Ok (WrongPlace kept)) new says came = ∣ tt ∣₁
      take_known h at none b all e (Ok Finished) new says came = ∣ tt ∣₁
      take_known h at none b all e (Err Memory) new says came = ∣ tt ∣₁
      take_known h at none b all e (Err Disk) new says came =
          let here = (subst (EachIs (Came Its) h) says.1 came).0 in
          if_known (LineFor h e) (is_decision e) (λ is. decided_disk h none e here is)
      take_known h at none b all e (Err (Full len add)) new says came =
          let here = (subst (EachIs (Came Its) h) says.1 came).0 in
          if_known (LineFor h e) (is_decision e) (λ is. decided_full h none len add e here is)
      take_known h at none b all e (Err Stopped) new says came = absurd says.0

      answers_at : (h : List Entry) (at : At h) (none : kept_fault h ≡ None) (a : Ask) (r : Reply) (new : List Entry) → Answers stance opening h a r new → AllAre (IsGrantOr Reported) (tooks new) → EachIs (Came Its) h new → ∥ At (h ++ new) ∥₁
      answers_at h at none (ask.Take e) (reply.Taken r) new says explained came = ∥∥₁_elim says.1 ∥∥₁_prop (λ shown. ∥∥₁_map (take_known h at none says.0 (shown_all h says.0 shown) e r new says.2.1 came)
          (λ decided. take_at h at none says.0 (shown_all h says.0 shown) e r new says.2.0 says.2.1 explained decided))
      answers_at h at none (ask.Take e) (reply.Claimed c) new says explained came = absurd says
      answers_at h at none (ask.Take e) (reply.Inputs i) new says explained came = absurd says
      answers_at h at none (ask.Take e) (reply.Heard r) new says explained came = absurd says
      answers_at h at none (ask.Take e) (reply.Progress p) new says explained came = absurd says
      answers_at h at none (ask.Take e) reply.Halted new says explained came = absurd says
      answers_at h at none (ask.Claim x) (reply.Taken r) new says explained came = absurd says
      answers_at h at none (ask.Claim x) (reply.Claimed c) new says explained came = ∥∥₁_map says.1 (λ shown. claim_at h at none says.0 (shown_all h says.0 shown) x c new says.2)
      answers_at h at none (ask.Claim x) (reply.Inputs i) new says explained came = absurd says
      answers_at h at none (ask.Claim x) (reply.Heard r) new says explained came = absurd says
      answers_at h at none (ask.Claim x) (reply.Progress p) new says explained came = absurd says
      answers_at h at none (ask.Claim x) reply.Halted new says explained came = absurd says
      answers_at h at none ask.Inputs (reply.Taken r) new says explained came = absurd says
      answers_at h at none ask.Inputs (reply.Claimed c) new says explained came = absurd says
      answers_at h at none ask.Inputs (reply.Inputs i) new says explained came = ∣ at_same h new at says.1 ∣₁
      answers_at h at none ask.Inputs (reply.Heard r) new says explained came = absurd says
      answers_at h at none ask.Inputs (reply.Progress p) new says explained came = absurd says
      answers_at h at none ask.Inputs reply.Halted new says explained came = absurd says
      answers_at h at none (ask.Answer line) (reply.Taken r) new says explained came = absurd says
      answers_at h at none (ask.Answer line) (reply.Claimed c) new says explained came = absurd says
      answers_at h at none (ask.Answer line) (reply.Inputs i) new says explained came = absurd says
      answers_at h at none (ask.Answer line) (reply.Heard r) new says explained came = ∥∥₁_map says.1 (λ shown. answer_at h at none says.0 (shown_all h says.0 shown) line r new says.2.0 says.2.1)
      answers_at h at none (ask.Answer line) (reply.Progress p) new says explained came = absurd says
      answers_at h at none (ask.Answer line) reply.Halted new says explained came = absurd says
      answers_at h at none ask.Look (reply.Taken r) new says explained came = absurd says
      answers_at h at none ask.Look (reply.Claimed c) new says explained came = absurd says
      answers_at h at none ask.Look (reply.Inputs i) new says explained came = absurd says
      answers_at h at none ask.Look (reply.Heard r) new says explained came = absurd says
      answers_at h at none ask.Look (reply.Progress p) new says explained came = ∣ at_same h new at says.1 ∣₁
      answers_at h at none ask.Look reply.Halted new says explained came = absurd says
      answers_at h at none ask.Halt (reply.Taken r) new says explained came = absurd says
      answers_at h at none ask.Halt (reply.Claimed c) new says explained came = absurd says
      answers_at h at none ask.Halt (reply.Inputs i) new says explained came = absurd says
      answers_at h at none ask.Halt (reply.Heard r) new says explained came = absurd says
      answers_at h at none ask.Halt (reply.Progress p) new says explained came = absurd says
      answers_at h at none ask.Halt reply.Halted new says explained came = ∣ at_failed h new Memory None at none says refl ∣₁

      says_at : (h : List Entry) (at : At h) (f : Option TakeFault) → kept_fault h ≡ f → (a : Ask) (r : Reply) (new : List Entry) → SaysAt stance opening h f a r new → AllAre (IsGrantOr Reported) (tooks new) → EachIs (Came Its) h new → ∥ At (h ++ new) ∥₁
      says_at h at (Some f) is a r new says explained came = ∣ at_same h new at says.1 ∣₁
      says_at h at None is a r new says explained came = answers_at h at is a r new says explained came

      -- all entries of these asks
      abbrev added : List (Ask × Reply × List Entry) → List Entry
      added [] = []
      added (x ∷ xs) = x.2 ++ added xs

      module _ {B : Type 0} (build_of : B → Parts T) (base : B) (is : build_of base ≡ opening) where
        run_adds : (h : List Entry) (asked : List (Ask × Reply × List Entry)) (to : List Entry) → IsRun (λ b history x y new. Says stance (build_of b) history x y new) base h asked to → h ++ added asked ≡ to
        run_adds h [] to run = append-nil h ∙ run
        run_adds h (x ∷ xs) to run = sym (append_assoc h x.2 (added xs)) ∙ run_adds (h ++ x.2) xs to run.1

        run_at : (h : List Entry) (asked : List (Ask × Reply × List Entry)) (to : List Entry) → IsRun (λ b history x y new. Says stance (build_of b) history x y new) base h asked to
            → AllAre (IsGrantOr Reported) (tooks (added asked)) → EachIs (Came Its) h (added asked) → ∥ At h ∥₁ → ∥ At to ∥₁
        run_at h [] to run explained came at = subst (λ (es : List Entry). ∥ At es ∥₁) run at
        run_at h (x ∷ xs) to run explained came at =
            let both : AllAre (IsGrantOr Reported) (tooks x.2 ++ tooks (added xs)) = subst (AllAre (IsGrantOr Reported)) (tooks-append x.2 (added xs)) explained in
            let says : Says stance opening h x.0 x.1 x.2 = subst (λ (b : Parts T). Says stance b h x.0 x.1 x.2) is run.0 in
            run_at (h ++ x.2) xs to run.1 (all_behind (IsGrantOr Reported) (tooks x.2) (tooks (added xs)) both) (each_rest (Came Its) h x.2 (added xs) came)
            (∥∥₁_elim at ∥∥₁_prop (λ here. says_at h here (kept_fault h) refl x.0 x.1 x.2 says (all_front (IsGrantOr Reported) (tooks x.2) (tooks (added xs)) both) (each_first (Came Its) h x.2 (added xs) came)))

        at_first : At []
        at_first = record { goes = same_goes before (before ++ []) [] [] (sym (append-nil before)) refl begins; stops = inl refl; given = tt; back = λ line last. absurd (none_entry (Line line) last) }

        -- A legal history tells this at its end, where each event in it that is no grant was reported so.
        pub legal_at : (h : List Entry) → IsLegal (λ b history x y new. Says stance (build_of b) history x y new) base h → AllAre (IsGrantOr Reported) (tooks h) → EachIs (Came Its) [] h → ∥ At h ∥₁
        legal_at h legal explained came =
            let all : added legal.0 ≡ h = run_adds [] legal.0 h legal.1 in
            run_at [] legal.0 h legal.1 (subst (λ (es : List Entry). AllAre (IsGrantOr Reported) (tooks es)) (sym all) explained) (subst (EachIs (Came Its) []) (sym all) came) ∣ at_first ∣₁
