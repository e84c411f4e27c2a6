-- Of an image and a later one there is one delta that leads from the one to the other and holds what changed alone.
use Rattle.std.proofs.Common.{◌≡◌, ◌∙◌, ℕ, Bool, true, List, [], ◌∷◌, map, sym, ap}
use Rattle.std.specs.Ordering.{is_lt, nat_cmp, on}
use Rattle.std.specs.Cmp.{IsTotalOrder}
use Rattle.std.specs.Cmp.Lexicographic.{slice_cmp, nat_list_cmp_total}
use Rattle.std.specs.declared.cmp.Ordering.{Ordering}
use Rattle.std.specs.declared.cmp.Ordering.TheVariants.{Less}
use Rattle.std.proofs.lemmas.Cmp.{nat_cmp_total}
use Rattle.std.proofs.lemmas.List.{append_cancel_left}
use Rattle.model_values.specs.declared.cell.Binding.{Binding}
use Rattle.model_run.specs.Fitting.{NamesRise, Rises}
use Rattle.model_run.specs.declared.held.Held.{Held}
use Rattle.model_run.specs.declared.result.BuildResult.{BuildResult}
use Rattle.record_form.specs.Ordered.{IsInOrder}
use Rattle.image_form.specs.declared.image.Image.{Image}
use Rattle.delta_form.specs.Changes.{rising}
use Rattle.delta_form.specs.After.{in_order, written_request, written_thread}
use Rattle.delta_form.specs.Numbers.{written_number}
use Rattle.delta_form.specs.declared.delta.Delta.{Delta}
use Rattle.delta_form.specs.declared.delta.NewNode.{NewNode}
use Rattle.delta_form.specs.declared.delta.NumberedCell.{NumberedCell}
use Rattle.delta_form.specs.declared.delta.WrittenRequest.{WrittenRequest}
use Rattle.delta_form.specs.declared.delta.WrittenThread.{WrittenThread}
use Rattle.delta_form.proofs.Fronts.{is_less}
use Rattle.delta_form.proofs.Orders.{all_to}
use Rattle.image_changes.specs.Least.{IsLeast, IsShort, KeepsMost}
use Rattle.image_changes.specs.Parts.{LeadsTo}
use Rattle.image_changes.proofs.Finding.{Sorted}
use Rattle.image_changes.proofs.Necessary.{Makes, makes, ordered}
use Rattle.image_changes.proofs.OneChange.{request_changed, request_keeps, request_never, request_new, thread_changed, thread_keeps, thread_never, thread_new}
use Rattle.image_changes.proofs.OnePart.{one_bindings, one_cells, one_nodes}
use Rattle.image_changes.proofs.OneRenewal.{both_true, one_renewal, tells}
use Rattle.image_changes.proofs.Rising.{names_above, names_behind, rises_above, rises_behind}

-- ---- lists that rise

sorted_numbers : {X : Type 0} (by : X → ℕ) (xs : List X) → Rises (map by xs) → Sorted nat_cmp by xs
sorted_numbers by [] rise = tt
sorted_numbers by (x ∷ xs) rise = (rises_above by x xs rise, sorted_numbers by xs (rises_behind by x xs rise))

sorted_names : (bs : List Binding) → NamesRise bs → Sorted (slice_cmp nat_cmp) (λ b. b.name) bs
sorted_names [] rise = tt
sorted_names (b ∷ bs) rise = (names_above b bs rise, sorted_names bs (names_behind b bs rise))

sorted : {K C : Type 0} (order : K → K → Ordering) (total : IsTotalOrder order) (number : C → K) (cs : List C) → rising (on number order) cs ≡ true → Sorted order number cs
sorted order total number [] e = tt
sorted order total number (c ∷ []) e = (tt, tt)
sorted order total number (c ∷ d ∷ ds) e =
    let both = both_true (is_lt (order (number c) (number d))) (rising (on number order) (d ∷ ds)) e in
    let below = is_less (order (number c) (number d)) both.0 in
    let rest = sorted order total number (d ∷ ds) both.1 in
    ((below, all_to (λ x. order (number d) (number x) ≡ Less) (λ x. order (number c) (number x) ≡ Less) (λ x behind. total.trans (number c) (number d) (number x) below behind) ds rest.0), rest)

-- the lists of a delta that are changed key by key
record Lists (d : Delta) : Type 0 where
  bindings : Sorted (slice_cmp nat_cmp) (λ b. b.name) d.bindings
  cells : Sorted nat_cmp (λ c. c.number) d.cells
  closed : Sorted nat_cmp (λ n. n) d.closed_requests
  requests : Sorted nat_cmp written_number d.requests
  ended : Sorted nat_cmp (λ n. n) d.ended_threads
  threads : Sorted nat_cmp (λ w. w.number) d.threads

lists : (d : Delta) → in_order d ≡ true → Lists d
lists d e =
    let six = both_true _ _ e in
    let five = both_true _ _ six.0 in
    let four = both_true _ _ five.0 in
    let three = both_true _ _ four.0 in
    let two = both_true _ _ three.0 in
    let one = both_true _ _ two.0 in
    record {
      bindings = sorted (slice_cmp nat_cmp) nat_list_cmp_total (λ (b : Binding). b.name) d.bindings one.0;
      cells = sorted nat_cmp nat_cmp_total (λ (c : NumberedCell). c.number) d.cells one.1;
      closed = sorted nat_cmp nat_cmp_total (λ (n : ℕ). n) d.closed_requests two.1;
      requests = sorted nat_cmp nat_cmp_total written_number d.requests three.1;
      ended = sorted nat_cmp nat_cmp_total (λ (n : ℕ). n) d.ended_threads five.1;
      threads = sorted nat_cmp nat_cmp_total (λ (w : WrittenThread). w.number) d.threads six.1;
    }

-- ---- the delta

module _ (before now : Image) (ordered_before : IsInOrder before) (d e : Delta) (leads : LeadsTo before now d) (least : IsLeast before d) (leads_too : LeadsTo before now e) (least_too : IsLeast before e) where
  abbrev made_d : Makes before now d
  made_d = makes before now d leads

  abbrev made_e : Makes before now e
  made_e = makes before now e leads_too

  abbrev lists_d : Lists d
  lists_d = lists d (ordered before now d leads)

  abbrev lists_e : Lists e
  lists_e = lists e (ordered before now e leads_too)

  requests_same : (d.closed_requests ≡ e.closed_requests) × (d.requests ≡ e.requests)
  requests_same =
      let rise = sorted_numbers (λ r. r.number) before.requests ordered_before.requests in
      one_renewal (λ r. r.number) written_number written_request IsShort before.requests now.requests request_never request_new request_changed d.closed_requests e.closed_requests d.requests e.requests
      lists_d.closed lists_e.closed lists_d.requests lists_e.requests
      (tells (λ r. r.number) written_number written_request IsShort before.requests now.requests request_keeps d.closed_requests d.requests lists_d.closed lists_d.requests rise made_d.requests least.requests)
      (tells (λ r. r.number) written_number written_request IsShort before.requests now.requests request_keeps e.closed_requests e.requests lists_e.closed lists_e.requests rise made_e.requests least_too.requests)

  threads_same : (d.ended_threads ≡ e.ended_threads) × (d.threads ≡ e.threads)
  threads_same =
      let rise = sorted_numbers (λ t. t.number) before.threads ordered_before.threads in
      one_renewal (λ t. t.number) (λ w. w.number) written_thread KeepsMost before.threads now.threads thread_never thread_new thread_changed d.ended_threads e.ended_threads d.threads e.threads
      lists_d.ended lists_e.ended lists_d.threads lists_e.threads
      (tells (λ t. t.number) (λ w. w.number) written_thread KeepsMost before.threads now.threads thread_keeps d.ended_threads d.threads lists_d.ended lists_d.threads rise made_d.threads least.threads)
      (tells (λ t. t.number) (λ w. w.number) written_thread KeepsMost before.threads now.threads thread_keeps e.ended_threads e.threads lists_e.ended lists_e.threads rise made_e.threads least_too.threads)

  bindings_same : d.bindings ≡ e.bindings
  bindings_same = one_bindings before.bindings now.bindings d.bindings e.bindings lists_d.bindings lists_e.bindings (sorted_names before.bindings ordered_before.names) made_d.bindings made_e.bindings

  cells_same : d.cells ≡ e.cells
  cells_same = one_cells before.cells now.cells d.cells e.cells lists_d.cells lists_e.cells made_d.cells made_e.cells least.cells least_too.cells

  nodes_same : d.nodes ≡ e.nodes
  nodes_same = one_nodes d.nodes e.nodes before.nodes now.nodes made_d.nodes made_e.nodes

  log_same : d.log ≡ e.log
  log_same = append_cancel_left before.log d.log e.log (sym made_d.log ∙ made_e.log)

  pub least_is_one : d ≡ e
  least_is_one =
      ap (λ (n : ℕ). record d { next_request = n }) (made_d.next_request ∙ sym made_e.next_request)
      ∙ ap (λ (n : ℕ). record d { next_request = e.next_request; next_thread = n }) (made_d.next_thread ∙ sym made_e.next_thread)
      ∙ ap (λ (r : BuildResult). record d { next_request = e.next_request; next_thread = e.next_thread; result = r }) (made_d.result ∙ sym made_e.result)
      ∙ ap (λ (b : Bool). record d { next_request = e.next_request; next_thread = e.next_thread; result = e.result; ended = b }) (made_d.ended ∙ sym made_e.ended)
      ∙ ap (λ (l : List Binding). record d { next_request = e.next_request; next_thread = e.next_thread; result = e.result; ended = e.ended; bindings = l }) bindings_same
      ∙ ap (λ (l : List NumberedCell). record d { next_request = e.next_request; next_thread = e.next_thread; result = e.result; ended = e.ended; bindings = e.bindings; cells = l }) cells_same
      ∙ ap (λ (l : List NewNode). record e { nodes = l; log = d.log; closed_requests = d.closed_requests; requests = d.requests; held = d.held; ended_threads = d.ended_threads; threads = d.threads }) nodes_same
      ∙ ap (λ (l : List ℕ). record e { log = l; closed_requests = d.closed_requests; requests = d.requests; held = d.held; ended_threads = d.ended_threads; threads = d.threads }) log_same
      ∙ ap (λ (l : List ℕ). record e { closed_requests = l; requests = d.requests; held = d.held; ended_threads = d.ended_threads; threads = d.threads }) requests_same.0
      ∙ ap (λ (l : List WrittenRequest). record e { requests = l; held = d.held; ended_threads = d.ended_threads; threads = d.threads }) requests_same.1
      ∙ ap (λ (l : List Held). record e { held = l; ended_threads = d.ended_threads; threads = d.threads }) (made_d.held ∙ sym made_e.held)
      ∙ ap (λ (l : List ℕ). record e { ended_threads = l; threads = d.threads }) threads_same.0
      ∙ ap (λ (l : List WrittenThread). record e { threads = l }) threads_same.1
