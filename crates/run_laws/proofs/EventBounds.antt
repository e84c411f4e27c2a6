-- Each event leaves the shared state in its bounds, before a thread goes on.
use Rattle.std.proofs.Common.{arith, ◌≡◌, ◌≤◌, ◌+◌, refl, subst, ℕ, Bool, true, false, List, [], ◌∷◌, filter, map, length, length-append}
use Rattle.std.specs.Prelude.{if◌then◌else◌, nat_eq, not}
use Rattle.std.specs.List.{AllByRecursion as AllAre}
use Rattle.model_run.specs.declared.held.Held.{Held}
use Rattle.model_run.specs.declared.request.Request.{Request}
use Rattle.model_run.specs.declared.request.Request.TheVariants.{Node as NodeRequest, Task as TaskRequest, Input as InputRequest}
use Rattle.model_run.specs.declared.request.OpenRequest.{OpenRequest}
use Rattle.model_run.specs.declared.site.Site.{Site}
use Rattle.model_run.specs.State.{Setting, Common}
use Rattle.model_run.specs.Fitting.{RequestFits}
use Rattle.model_run.specs.LogText.{raw}
use Rattle.model_run.specs.World.{begun, with_taken, with_kept, change_if, change_request}
use Rattle.run_laws.specs.Bounds.{Narrow, InBounds}
use Rattle.run_laws.specs.Worlds.{SharedSound}
use Rattle.run_laws.proofs.Bounds.{all_longer, bounds_aside, bounds_beside}

all_kept : {A : Type 0} (P : A → Type 0) (keep : A → Bool) (xs : List A) → AllAre P xs → AllAre P (filter keep xs)
all_kept P keep [] h = tt
all_kept P keep (x ∷ xs) h = one (keep x) (all_kept P keep xs h.1)
  where
    one : (b : Bool) → AllAre P (filter keep xs) → AllAre P (if b then x ∷ filter keep xs else filter keep xs)
    one true more = (h.0, more)
    one false more = more

-- the count begins anew
pub bounds_uncounted : (ended : Bool) (site : Site) (u : Common) → InBounds ended site u → InBounds ended site (record u { count = 0 })
bounds_uncounted ended site u h = bounds_aside ended site u (record u { count = 0 }) h refl refl refl refl refl (omega arith)

-- a request is closed, whatever is held from then on
pub bounds_closed : (ended : Bool) (site : Site) (n : ℕ) (u : Common) (held : List Held) → InBounds ended site u → InBounds ended site (record u { held = held; requests = filter (λ r. not (nat_eq r.number n)) u.requests })
bounds_closed ended site n u held h = bounds_beside ended site u (record u { held = held; requests = filter (λ r. not (nat_eq r.number n)) u.requests }) h refl refl refl refl (all_kept (λ r. RequestFits site (length u.log) r.request) (λ r. not (nat_eq r.number n)) u.requests h.asks)

-- a request is changed, where the log gets longer
changed_asks : (site : Site) (m k : ℕ) → m ≤ k → (g : Request → Request) → ((r : Request) → RequestFits site m r → RequestFits site k (g r)) → (n : ℕ) (rs : List OpenRequest) → AllAre (λ r. RequestFits site m r.request) rs → AllAre (λ r. RequestFits site k r.request) (map (change_if g n) rs)
changed_asks site m k le g fits n [] h = tt
changed_asks site m k le g fits n (r ∷ rs) h = (one (nat_eq r.number n), changed_asks site m k le g fits n rs h.1)
  where
    one : (b : Bool) → RequestFits site k (if b then record r { request = g r.request } else r).request
    one true = fits r.request h.0
    one false = (all_longer site m k le (r ∷ []) (h.0, tt)).0

taken_fits : (site : Site) (log : ℕ) (n : ℕ) (r : Request) → RequestFits site log r → RequestFits site (log + n) (with_taken n r)
taken_fits site log n (NodeRequest label) h = h
taken_fits site log n (TaskRequest executor workspace folder env script status keep taken out) h = (h.0, omega (arith, h.1))
taken_fits site log n (InputRequest id) h = h

kept_fits : (site : Site) (log : ℕ) (bytes : List ℕ) (r : Request) → RequestFits site log r → RequestFits site log (with_kept bytes r)
kept_fits site log bytes (NodeRequest label) h = h
kept_fits site log bytes (TaskRequest executor workspace folder env script status keep taken out) h = h
kept_fits site log bytes (InputRequest id) h = h

-- output of a task is logged
pub bounds_taken : (ended : Bool) (site : Site) (task : ℕ) (bytes : List ℕ) (u : Common) → InBounds ended site u → InBounds ended site (change_request (with_taken (length bytes)) task (record u { log = raw bytes u.log }))
bounds_taken ended site task bytes u h =
    let same : length u.log + length bytes ≡ length (raw bytes u.log) = omega (arith, length-append u.log bytes) in
    bounds_beside ended site u (change_request (with_taken (length bytes)) task (record u { log = raw bytes u.log })) h refl refl refl refl
    (changed_asks site (length u.log) (length (raw bytes u.log)) (omega (arith, same)) (with_taken (length bytes)) (λ r x. subst (λ k. RequestFits site k (with_taken (length bytes) r)) same (taken_fits site (length u.log) (length bytes) r x)) task u.requests h.asks)

-- output of a task is kept
pub bounds_kept : (ended : Bool) (site : Site) (task : ℕ) (bytes : List ℕ) (u : Common) → InBounds ended site u → InBounds ended site (change_request (with_kept bytes) task u)
bounds_kept ended site task bytes u h =
    bounds_beside ended site u (change_request (with_kept bytes) task u) h refl refl refl refl (changed_asks site (length u.log) (length u.log) (omega arith) (with_kept bytes) (λ r x. kept_fits site (length u.log) bytes r x) task u.requests h.asks)

-- a build that has just begun
pub begun_shared : {g : Setting} → Narrow g.limits → SharedSound g false begun.shared
begun_shared narrow = record {
  narrow = narrow;
  cells = tt;
  binding = tt;
  held = tt;
  bounds = record { short = tt; few_cells = omega arith; few_bytes = omega arith; names = tt; few_nodes = omega arith; nodes = (refl, refl, tt, tt); few_requests = omega arith; asks = tt };
}
