-- Where no test of requests and held executors fails, they are those of a sound build, and the other way round.
use Rattle.std.proofs.Common.{◌≡◌, ◌∙◌, ◌+◌, ℕ, suc, Bool, true, false, not, List, [], ◌∷◌, length, map, Option, Some, None, refl, ap, sym, subst}
use Rattle.std.specs.Prelude.{nat_eq, nat_lt, ◌&&◌, cond, is_some}
use Rattle.std.specs.Option.{option_map}
use Rattle.std.specs.List.{AllByRecursion as AllAre}
use Rattle.model_run.specs.declared.request.OpenRequest.{OpenRequest}
use Rattle.model_run.specs.declared.request.Request.{Request}
use Rattle.model_run.specs.declared.request.Request.TheVariants.{Node as NodeRequest, Task as TaskRequest, Input as InputRequest}
use Rattle.model_run.specs.declared.held.Held.{Held}
use Rattle.model_run.specs.declared.site.Site.{Site}
use Rattle.model_run.specs.declared.wait.Wait.{Wait}
use Rattle.model_run.specs.declared.wait.Wait.TheVariants.{Request as RequestWait, Ready, Branches}
use Rattle.model_run.specs.Grants.{executor_of}
use Rattle.model_run.specs.Labels.{label_fault}
use Rattle.model_run.specs.StepTable.{has_blank}
use Rattle.model_run.specs.Fitting.{Distinct, IsWaitedFor, RequestFits, Rises, Seat, WaitsFor, seat_of}
use Rattle.image_form.specs.declared.image.Image.{Image}
use Rattle.image_form.specs.declared.image.ImageThread.{ImageThread}
use Rattle.image_check.specs.declared.finding.Finding.{Finding}
use Rattle.image_check.specs.declared.finding.CheckKind.TheVariants as check
use Rattle.image_check.specs.Findings.{outside}
use Rattle.image_check.specs.Scans.{need, each, is_higher}
use Rattle.image_check.specs.Requests.{all_differ, has_waiter, held_fault, held_faults, is_empty, is_sound, is_wait_for, numbered, request_fault, request_tests, runs_there, thread_of}
use Rattle.image_check.proofs.Testing.{Tests, Passes, left_true, right_true, both_true, both, alike, at_most, flag, same, needed, after, alike_passes, not_true}
use Rattle.image_check.proofs.Numbers.{RisesFrom, differ_tests, higher_first, higher_on, nothing_rises, rest_rises}

-- A test of each item of a list, that its number is above the one before it among the rest
pub rising_each : {A : Type 0} (f : A → ℕ) (fault : ℕ → Option A → A → Option Finding) (P : A → Type 0) → ((place : ℕ) (before : Option A) (x : A) → Passes (fault place before x) ((is_higher (option_map f before) (f x) ≡ true) × P x)) → (place : ℕ) (before : Option A) (xs : List A) → Passes (each fault place before xs) (RisesFrom (option_map f before) (map f xs) × AllAre P xs)
rising_each f fault P one place before [] = record { holds = λ e. (nothing_rises (option_map f before), tt); told = λ h. refl }
rising_each f fault P one place before (x ∷ xs) =
    alike_passes (each fault place before (x ∷ xs)) (after (fault place before x) (each fault (suc place) (Some x) xs) (one place before x) (rising_each f fault P one (suc place) (Some x) xs))
    (λ h. (higher_on (option_map f before) (f x) (map f xs) h.0.0 h.1.0, (h.0.1, h.1.1)))
    (λ h. ((higher_first (option_map f before) (f x) (map f xs) h.0, h.1.0), (rest_rises (option_map f before) (f x) (map f xs) h.0, h.1.1)))

-- where there is none
pub none_tests : {A : Type 0} (o : Option A) → Tests (not (is_some o)) (o ≡ None)
none_tests None = record { holds = λ e. refl; told = λ h. refl }
none_tests (Some x) = record { holds = λ e. absurd (cc e); told = λ h. absurd (cc h) }

pub some_tests : {A : Type 0} (o : Option A) → Tests (is_some o) (o ≡ None → ⊥)
some_tests None = record { holds = λ e. absurd (cc e); told = λ h. absurd (h refl) }
some_tests (Some x) = record { holds = λ e d. cc d; told = λ h. refl }

text_tests : (t : List ℕ) → Tests (not (is_empty t)) (t ≡ [] → ⊥)
text_tests [] = record { holds = λ e. absurd (cc e); told = λ h. absurd (h refl) }
text_tests (b ∷ bs) = record { holds = λ e d. cc d; told = λ h. refl }

false_tests : (b : Bool) → Tests (not b) (b ≡ false)
false_tests b = record { holds = not_true b; told = λ h. ap not h }

-- a request that fits
sound_fits : (site : Site) (logged : ℕ) (r : Request) → Tests (is_sound logged r && runs_there site r) (RequestFits site logged r)
sound_fits site logged (NodeRequest label) = alike (is_sound logged (NodeRequest label) && true) (both (not (is_some (label_fault label))) true (none_tests (label_fault label)) (flag true)) (λ h. h.0) (λ h. (h, refl))
sound_fits site logged (TaskRequest executor workspace folder env script status keep taken out) =
    let few = not (nat_lt (4611686018427387904 + logged) taken) in
    alike (few && is_some (executor_of site executor)) (both few (is_some (executor_of site executor)) (at_most taken (4611686018427387904 + logged)) (some_tests (executor_of site executor))) (λ h. (h.1, h.0)) (λ h. (h.1, h.0))
sound_fits site logged (InputRequest id) =
    let fits = not (is_empty id) && not (has_blank id) in
    alike (fits && true) (both fits true (both (not (is_empty id)) (not (has_blank id)) (text_tests id) (false_tests (has_blank id))) (flag true)) (λ h. h.0) (λ h. (h, refl))

-- the seats of threads, each with its number and its wait
pub record Seated (seat : ImageThread → Seat) : Type 0 where
  pub number : (t : ImageThread) → (seat t).number ≡ t.number
  pub wait : (t : ImageThread) → (seat t).wait ≡ t.wait

seat_first : (seat : ImageThread → Seat) (t : ImageThread) (b : Bool) (u : Option Seat) (o : Option ImageThread) → u ≡ option_map seat o → cond b (Some (seat t)) u ≡ option_map seat (cond b (Some t) o)
seat_first seat t true u o e = refl
seat_first seat t false u o e = e

pub find_seat : (seat : ImageThread → Seat) → Seated seat → (n : ℕ) (ts : List ImageThread) → seat_of (map seat ts) n ≡ option_map seat (numbered (λ t. t.number) n ts)
find_seat seat is n [] = refl
find_seat seat is n (t ∷ ts) =
    ap (λ m. cond (nat_eq m n) (Some (seat t)) (seat_of (map seat ts) n)) (is.number t)
    ∙ seat_first seat t (nat_eq t.number n) (seat_of (map seat ts) n) (numbered (λ u. u.number) n ts) (find_seat seat is n ts)

-- its thread waits for it
wait_tests : (r : ℕ) (w : Wait) → Tests (is_wait_for r w) (w ≡ RequestWait r)
wait_tests r (RequestWait q) = alike (nat_eq q r) (same q r) (λ h. ap RequestWait h) (λ h. cc h)
wait_tests r (Ready x) = record { holds = λ e. absurd (cc e); told = λ h. absurd (cc h) }
wait_tests r (Branches js) = record { holds = λ e. absurd (cc e); told = λ h. absurd (cc h) }

waiter_of : (seat : ImageThread → Seat) → Seated seat → (r : ℕ) (o : Option ImageThread) → Tests (has_waiter r o) (WaitsFor r (option_map seat o))
waiter_of seat is r None = record { holds = λ e. absurd (cc e); told = λ h. absurd h }
waiter_of seat is r (Some t) = alike (is_wait_for r t.wait) (wait_tests r t.wait) (λ h. is.wait t ∙ h) (λ h. sym (is.wait t) ∙ h)

waiter_tests : (seat : ImageThread → Seat) → Seated seat → (i : Image) (r : OpenRequest) → Tests (has_waiter r.number (thread_of i r.thread)) (IsWaitedFor (map seat i.threads) r)
waiter_tests seat is i r = subst (λ o. Tests (has_waiter r.number (thread_of i r.thread)) (WaitsFor r.number o)) (sym (find_seat seat is r.thread i.threads)) (waiter_of seat is r.number (thread_of i r.thread))

-- what the tests of a request say
abbrev pub RequestStands : Site → (ImageThread → Seat) → Image → OpenRequest → Type 0
RequestStands site seat i r = RequestFits site (length i.log) r.request × IsWaitedFor (map seat i.threads) r

request : (site : Site) (seat : ImageThread → Seat) → Seated seat → (i : Image) (before : Option ℕ) (r : OpenRequest) → Passes (request_tests site i before r) ((is_higher before r.number ≡ true) × RequestStands site seat i r)
request site seat is i before r =
    let sound = is_sound (length i.log) r.request in
    let runs = runs_there site r.request in
    let waiter = has_waiter r.number (thread_of i r.thread) in
    let higher = is_higher before r.number in
    let fits = sound_fits site (length i.log) r.request in
    alike_passes (request_tests site i before r)
    (after (need (higher && (sound && waiter)) (outside check.Request)) (need runs (outside check.Executor))
    (needed (higher && (sound && waiter)) (outside check.Request) (both higher (sound && waiter) (flag higher) (both sound waiter (flag sound) (waiter_tests seat is i r))))
    (needed runs (outside check.Executor) (flag runs)))
    (λ h. (h.0.0, (fits.holds (both_true sound runs h.0.1.0 h.1), h.0.1.1)))
    (λ h. ((h.0, (left_true sound runs (fits.told h.1.0), h.1.1)), right_true sound runs (fits.told h.1.0)))

pub requests_stand : (site : Site) (seat : ImageThread → Seat) → Seated seat → (i : Image) → Passes (each (request_fault site i) 0 None i.requests) (Rises (map (λ r. r.number) i.requests) × AllAre (RequestStands site seat i) i.requests)
requests_stand site seat is i = rising_each (λ r. r.number) (request_fault site i) (RequestStands site seat i) (λ place before r. request site seat is i (option_map (λ q. q.number) before) r) 0 None i.requests

-- what the tests of a held executor say
abbrev pub HeldStands : Site → Image → Held → Type 0
HeldStands site i x = (executor_of site x.executor ≡ None → ⊥) × (numbered (λ r. r.number) x.request i.requests ≡ None)

held_one : (site : Site) (i : Image) (place : ℕ) (before : Option Held) (x : Held) → Passes (held_fault site i place before x) ((is_higher (option_map (λ y. y.executor) before) x.executor ≡ true) × HeldStands site i x)
held_one site i place before x =
    let higher = is_higher (option_map (λ y. y.executor) before) x.executor in
    let there = is_some (executor_of site x.executor) in
    let closed = not (is_some (numbered (λ r. r.number) x.request i.requests)) in
    needed (higher && (there && closed)) (outside check.Executor) (both higher (there && closed) (flag higher) (both there closed (some_tests (executor_of site x.executor)) (none_tests (numbered (λ r. r.number) x.request i.requests))))

pub held_stand : (site : Site) (i : Image) → Passes (held_faults site i) ((Rises (map (λ x. x.executor) i.held) × AllAre (HeldStands site i) i.held) × Distinct (map (λ x. x.request) i.held))
held_stand site i =
    after (each (held_fault site i) 0 None i.held) (need (all_differ (map (λ x. x.request) i.held)) (outside check.Executor))
    (rising_each (λ x. x.executor) (held_fault site i) (HeldStands site i) (held_one site i) 0 None i.held)
    (needed (all_differ (map (λ x. x.request) i.held)) (outside check.Executor) (differ_tests (map (λ x. x.request) i.held)))
