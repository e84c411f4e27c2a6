-- The shared state of a sound build stays one over a turn, and over each event that ends no build.
use Rattle.std.proofs.Common.{arith, ◌≡◌, ◌≤◌, ◌<◌, ◌∙◌, refl, sym, subst, ℕ, suc, Bool, false, true, List, [], ◌∷◌, map, filter, length, None}
use Rattle.std.specs.Prelude.{nat_eq, if◌then◌else◌}
use Rattle.std.specs.List.{AllByRecursion as AllAre}
use Rattle.model_values.proofs.CellGrowth.{all_append}
use Rattle.model_values.proofs.LaterLaws.{all_weaker}
use Rattle.model_run.specs.declared.held.Held.{Held}
use Rattle.model_run.specs.declared.request.OpenRequest.{OpenRequest}
use Rattle.model_run.specs.declared.request.Request.{Request}
use Rattle.model_run.specs.declared.site.Site.{Site}
use Rattle.model_run.specs.Fitting.{HeldFits, RequestFits, Rise, SharedFits, Some_of}
use Rattle.model_run.specs.Grants.{executor_of, with_held}
use Rattle.model_run.specs.LogText.{raw}
use Rattle.model_run.specs.Requests.{AsksMore, RequestsFit, numbers_of}
use Rattle.model_run.specs.Since.{Follows}
use Rattle.model_run.specs.State.{Common, Setting, World}
use Rattle.model_run.specs.World.{change_if, run_limits, with_kept, with_taken}
use Rattle.model_run.proofs.Asking.{numbers_behind, rise_behind}
use Rattle.model_run.proofs.Front.{front_length}
use Rattle.model_run.proofs.RequestLaws.{NoneOf, asks_fit, closed_now, found_none, none_of, numbers_changed, other_than, rise_below, rise_from, rise_kept, some_all}
use Rattle.run_laws.specs.Bounds.{InBounds, Narrow}
use Rattle.run_laws.specs.Soundness.{SoundWorld}
use Rattle.run_laws.specs.Worlds.{SharedSound}
use Rattle.run_laws.proofs.EventBounds.{bounds_closed, bounds_kept, bounds_taken}
use Rattle.run_laws.proofs.SoundSeats.{fits_shared}
use Rattle.cps_frames.specs.Standing.{common_of, setting_of}
use Rattle.cps_frames.specs.declared.shared.Shared.{Shared}
use Rattle.thread_fits.proofs.HeldLaws.{OthersOf, all_kept, all_with, differ_with, rises_with}

-- this product's limits
pub limits_narrow : Narrow run_limits
limits_narrow = record { cells = omega arith; bytes = omega arith; nodes = omega arith }

pub sound_of : (u : Shared) → SharedFits (setting_of u) false (common_of u) → SharedSound (setting_of u) false (common_of u)
sound_of u h = fits_shared (setting_of u) false (common_of u) limits_narrow h

bounds_of : (g : Setting) (u : Common) → SharedFits g false u → InBounds false g.site u
bounds_of g u h = record { short = h.short; few_cells = h.few_cells; few_bytes = h.few_bytes; names = h.names; few_nodes = h.few_nodes; nodes = h.nodes; few_requests = h.few_requests; asks = h.asks }

-- held executors by themselves
held_alone : (site : Site) (u : Common) (h : AllAre (HeldFits site u) u.held) → AllAre (HeldFits site (record u { requests = []; next_request = suc u.next_request })) u.held
held_alone site u h = all_weaker _ _ (λ x fit. record { executor = fit.executor; made = (let lt : x.request < u.next_request = fit.made in omega (arith, lt)); closed = refl }) u.held h

fit_alone : (g : Setting) (u : Common) → SharedFits g false u → RequestsFit g.site (record u { requests = []; next_request = suc u.next_request })
fit_alone g u h = record { some = omega arith; requests = tt; rising = h.rising; held = held_alone g.site u h.held; differ = h.differ }

-- what becomes of an executor that stays held, where requests are opened or closed
held_on : (site : Site) (u v : Common) → u.next_request ≤ v.next_request → ((n : ℕ) → n < u.next_request → NoneOf n u.requests → NoneOf n v.requests) → (x : Held) → HeldFits site u x → HeldFits site v x
held_on site u v le none x fit = record {
  executor = fit.executor;
  made = (let lt : x.request < u.next_request = fit.made in omega (arith, lt, le));
  closed = found_none x.request v.requests (none x.request fit.made (none_of x.request u.requests fit.closed));
}

none_new : (u v : Common) → AsksMore u v → (n : ℕ) → n < u.next_request → NoneOf n u.requests → NoneOf n v.requests
none_new u v asks n lt none =
    subst (NoneOf n) (sym asks.requests) (all_append _ u.requests asks.new none
    (all_weaker _ _ (λ r le e. (let low : u.next_request ≤ r.number = le in omega (arith, low, lt, e))) asks.new (rise_from u.next_request v.next_request asks.new asks.numbers)))

-- Over a turn.
pub turn_shared : (g : Setting) (u : Common) (w : World) → Follows u w.shared → SoundWorld g w → SharedFits g false u → SharedFits g false w.shared
turn_shared g u w f s h =
    let asks : AsksMore u w.shared = f.asks in
    let kept : RequestsFit g.site (record w.shared { requests = []; next_request = suc u.next_request }) =
    asks_fit g.site (record u { requests = []; next_request = suc u.next_request }) (record w.shared { requests = []; next_request = suc u.next_request }) (record { next = omega arith; new = []; requests = refl; numbers = tt }) f.held (fit_alone g u h) in
    record {
      cells = s.cells;
      short = (s.bounds).short;
      few_cells = (s.bounds).few_cells;
      few_bytes = (s.bounds).few_bytes;
      binding = s.binding;
      names = (s.bounds).names;
      some_node = (let more : length u.nodes ≤ length w.shared.nodes = front_length u.nodes w.shared.nodes (f.later).nodes in omega (arith, more, h.some_node));
      few_nodes = (s.bounds).few_nodes;
      nodes = (s.bounds).nodes;
      requests = subst (λ rs. Rise 0 w.shared.next_request (numbers_of rs)) (sym asks.requests)
          (subst (Rise 0 w.shared.next_request) (sym (numbers_behind u.requests asks.new)) (rise_behind 0 u.next_request w.shared.next_request (numbers_of u.requests) (numbers_of asks.new) (omega arith) asks.next h.requests asks.numbers));
      few_requests = (s.bounds).few_requests;
      asks = (s.bounds).asks;
      rising = kept.rising;
      held = subst (λ xs. AllAre (HeldFits g.site w.shared) xs) (sym (f.held).1) (all_kept (HeldFits g.site w.shared) (f.held).0 u.held (all_weaker _ _ (held_on g.site u w.shared asks.next (none_new u w.shared asks)) u.held h.held));
      differ = kept.differ;
    }

-- A request is closed.
pub closed_shared : (g : Setting) (n : ℕ) (u : Common) → SharedFits g false u → SharedFits g false (record u { requests = filter (other_than n) u.requests; count = 0 })
closed_shared g n u h = record {
  cells = h.cells;
  short = h.short;
  few_cells = h.few_cells;
  few_bytes = h.few_bytes;
  binding = h.binding;
  names = h.names;
  some_node = h.some_node;
  few_nodes = h.few_nodes;
  nodes = h.nodes;
  requests = rise_kept (other_than n) 0 u.next_request u.requests h.requests;
  few_requests = h.few_requests;
  asks = (bounds_closed false g.site n u u.held (bounds_of g u h)).asks;
  rising = h.rising;
  held = all_weaker _ _ (held_on g.site u (record u { requests = filter (other_than n) u.requests; count = 0 }) (omega arith) (λ m lt none. all_kept (λ r. r.number ≡ m → ⊥) (other_than n) u.requests none)) u.held h.held;
  differ = h.differ;
}

-- An executor is granted for a request, which is closed.
pub granted_shared : (g : Setting) (y : Held) (u : Common) → (executor_of g.site y.executor ≡ None → ⊥) → Some_of (λ r. r.number ≡ y.request) u.requests → OthersOf y.executor u.held → SharedFits g false u
    → SharedFits g false (record u { held = with_held y u.held; requests = filter (other_than y.request) u.requests; count = 0 })
granted_shared g y u known were free h =
    let closed : SharedFits g false (record u { requests = filter (other_than y.request) u.requests; count = 0 }) = closed_shared g y.request u h in
    let below : y.request < u.next_request = some_all (λ r. r.number < u.next_request) (λ r. r.number ≡ y.request) (y.request < u.next_request) (λ r lt at. omega (arith, lt, at)) u.requests (rise_below 0 u.next_request u.requests h.requests) were in
    let new : HeldFits g.site (record u { held = with_held y u.held; requests = filter (other_than y.request) u.requests; count = 0 }) y =
    record { executor = known; made = below; closed = found_none y.request (filter (other_than y.request) u.requests) (closed_now y.request u.requests) } in
    let others : AllAre (λ (x : Held). x.request ≡ y.request → ⊥) u.held =
    all_weaker _ _ (λ x fit e. some_all (λ r. r.number ≡ x.request → ⊥) (λ r. r.number ≡ y.request) ⊥ (λ r never at. never (at ∙ sym e)) u.requests (none_of x.request u.requests fit.closed) were) u.held h.held in
    record {
      cells = h.cells;
      short = h.short;
      few_cells = h.few_cells;
      few_bytes = h.few_bytes;
      binding = h.binding;
      names = h.names;
      some_node = h.some_node;
      few_nodes = h.few_nodes;
      nodes = h.nodes;
      requests = closed.requests;
      few_requests = h.few_requests;
      asks = closed.asks;
      rising = rises_with y u.held free h.rising;
      held = all_with (HeldFits g.site (record u { held = with_held y u.held; requests = filter (other_than y.request) u.requests; count = 0 })) y u.held new (all_weaker _ _ (λ x fit. record { executor = fit.executor; made = fit.made; closed = fit.closed }) u.held closed.held);
      differ = differ_with y u.held others h.differ;
    }

-- A request is changed, and the log with it.
none_changed : (f : Request → Request) (n m : ℕ) (rs : List OpenRequest) → NoneOf m rs → NoneOf m (map (change_if f n) rs)
none_changed f n m [] h = tt
none_changed f n m (r ∷ rs) h = (one (nat_eq r.number n), none_changed f n m rs h.1)
  where
    one : (b : Bool) → (if b then record r { request = f r.request } else r).number ≡ m → ⊥
    one true = h.0
    one false = h.0

changed_shared : (g : Setting) (f : Request → Request) (n : ℕ) (log : List ℕ) (u : Common) → AllAre (λ r. RequestFits g.site (length log) r.request) (map (change_if f n) u.requests) → SharedFits g false u
    → SharedFits g false (record u { requests = map (change_if f n) u.requests; log = log; count = 0 })
changed_shared g f n log u asks h = record {
  cells = h.cells;
  short = h.short;
  few_cells = h.few_cells;
  few_bytes = h.few_bytes;
  binding = h.binding;
  names = h.names;
  some_node = h.some_node;
  few_nodes = h.few_nodes;
  nodes = h.nodes;
  requests = subst (Rise 0 u.next_request) (sym (numbers_changed f n u.requests)) h.requests;
  few_requests = h.few_requests;
  asks = asks;
  rising = h.rising;
  held = all_weaker _ _ (held_on g.site u (record u { requests = map (change_if f n) u.requests; log = log; count = 0 }) (omega arith) (λ m lt none. none_changed f n m u.requests none)) u.held h.held;
  differ = h.differ;
}

pub taken_shared : (g : Setting) (task : ℕ) (bytes : List ℕ) (u : Common) → SharedFits g false u → SharedFits g false (record u { requests = map (change_if (with_taken (length bytes)) task) u.requests; log = raw bytes u.log; count = 0 })
taken_shared g task bytes u h = changed_shared g (with_taken (length bytes)) task (raw bytes u.log) u (bounds_taken false g.site task bytes u (bounds_of g u h)).asks h

pub kept_shared : (g : Setting) (task : ℕ) (bytes : List ℕ) (u : Common) → SharedFits g false u → SharedFits g false (record u { requests = map (change_if (with_kept bytes) task) u.requests; log = u.log; count = 0 })
kept_shared g task bytes u h = changed_shared g (with_kept bytes) task u.log u (bounds_kept false g.site task bytes u (bounds_of g u h)).asks h
