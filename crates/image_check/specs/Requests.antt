-- The tests of open requests and of held executors.
use Rattle.std.specs.Prelude.{ℕ, ◌+◌, nat_eq, nat_lt, Bool, true, false, not, ◌&&◌, List, [], ◌∷◌, length, map, find, Option, Some, None, option_map, is_some}
use Rattle.std.specs.List.{list_any}
use Rattle.model_run.specs.declared.request.OpenRequest.{OpenRequest}
use Rattle.model_run.specs.declared.request.Request.{Request}
use Rattle.model_run.specs.declared.request.Request.TheVariants.{Node as NodeRequest, Task as TaskRequest, Input as InputRequest}
use Rattle.model_run.specs.declared.held.Held.{Held}
use Rattle.model_run.specs.declared.site.Site.{Site}
use Rattle.model_run.specs.declared.site.Executor.{Executor}
use Rattle.model_run.specs.declared.wait.Wait.{Wait}
use Rattle.model_run.specs.declared.wait.Wait.TheVariants.{Request as RequestWait}
use Rattle.model_run.specs.Grants.{executor_of}
use Rattle.model_run.specs.Labels.{label_fault}
use Rattle.model_run.specs.StepTable.{has_blank}
use Rattle.image_form.specs.declared.image.Image.{Image}
use Rattle.image_form.specs.declared.image.ImageThread.{ImageThread}
use Rattle.image_check.specs.declared.finding.Finding.{Finding}
use Rattle.image_check.specs.declared.finding.CheckKind.TheVariants as check
use Rattle.image_check.specs.Findings.{outside}
use Rattle.image_check.specs.Scans.{need, ◌then◌, each, is_higher}

-- the item of a list with this number
abbrev pub numbered : {A : Type 0} → (A → ℕ) → ℕ → List A → Option A
numbered number n xs = find (λ x. nat_eq (number x) n) xs

-- each number is above the one before it
abbrev pub rise_behind : {A : Type 0} → (A → ℕ) → Option ℕ → List A → Bool
rise_behind number before [] = true
rise_behind number before (x ∷ xs) = is_higher before (number x) && rise_behind number (Some (number x)) xs

abbrev pub numbers_rise : {A : Type 0} → (A → ℕ) → List A → Bool
numbers_rise number xs = rise_behind number None xs

abbrev pub thread_of : Image → ℕ → Option ImageThread
thread_of i n = numbered (λ t. t.number) n i.threads

abbrev pub is_empty : List ℕ → Bool
is_empty [] = true
is_empty (b ∷ bs) = false

-- A label has no fault, an id has no blank and is not empty, and what was logged of a task is not counted far beyond the log.
abbrev pub is_sound : ℕ → Request → Bool
is_sound logged (NodeRequest label) = not (is_some (label_fault label))
is_sound logged (TaskRequest executor workspace folder env script status keep taken out) = not (nat_lt (4611686018427387904 + logged) taken)
is_sound logged (InputRequest id) = not (is_empty id) && not (has_blank id)

-- a task's executor is one of the site's
abbrev pub runs_there : Site → Request → Bool
runs_there site (TaskRequest executor workspace folder env script status keep taken out) = is_some (executor_of site executor)
runs_there site r = true

abbrev pub is_wait_for : ℕ → Wait → Bool
is_wait_for r (RequestWait q) = nat_eq q r
is_wait_for r w = false

-- its thread waits for it
abbrev pub has_waiter : ℕ → Option ImageThread → Bool
has_waiter r None = false
has_waiter r (Some t) = is_wait_for r t.wait

-- there is an executor, with this number
abbrev pub is_numbered : ℕ → Option Executor → Bool
is_numbered n None = false
is_numbered n (Some x) = nat_eq x.number n

-- numbers rise, each request is as such a request is, its thread waits for it, and a task's executor is there
abbrev pub request_tests : Site → Image → Option ℕ → OpenRequest → Option Finding
request_tests site i before r =
    need (is_higher before r.number && (is_sound (length i.log) r.request && has_waiter r.number (thread_of i r.thread))) (outside check.Request)
    then need (runs_there site r.request) (outside check.Executor)

abbrev pub request_fault : Site → Image → ℕ → Option OpenRequest → OpenRequest → Option Finding
request_fault site i place before r = request_tests site i (option_map (λ q. q.number) before) r

-- no number stands twice
abbrev pub all_differ : List ℕ → Bool
all_differ [] = true
all_differ (n ∷ ns) = not (list_any (nat_eq n) ns) && all_differ ns

-- numbers rise, each executor is one of the site's, and its request is no longer open
abbrev pub held_fault : Site → Image → ℕ → Option Held → Held → Option Finding
held_fault site i place before x =
    need (is_higher (option_map (λ y. y.executor) before) x.executor && (is_some (executor_of site x.executor) && not (is_some (numbered (λ r. r.number) x.request i.requests)))) (outside check.Executor)

-- and no two have one request
abbrev pub held_faults : Site → Image → Option Finding
held_faults site i =
    each (held_fault site i) 0 None i.held
    then need (all_differ (map (λ x. x.request) i.held)) (outside check.Executor)
