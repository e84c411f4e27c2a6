-- Each change of a shared state that an evaluation makes stays in the bounds.
use Rattle.std.proofs.Common.{arith, ◌≡◌, ◌<◌, ◌≤◌, ◌+◌, ◌∙◌, refl, sym, ap, subst, ℕ, suc, Bool, true, false, List, [], ◌∷◌, ◌++◌, length, length-append, Option, Some, None, Ordering, Less, Equal, Greater}
use Rattle.std.specs.Prelude.{if◌then◌else◌}
use Rattle.std.specs.List.{AllByRecursion as AllAre, last_or}
use Rattle.std.specs.Ordering.{is_lt, is_eq, ordering_reverse, nat_cmp}
use Rattle.std.specs.Cmp.Lexicographic.{slice_cmp, texts_ties}
use Rattle.std.proofs.lemmas.Cmp.{nat_list_cmp_total}
use Rattle.std.proofs.lemmas.Bool.{ltb-true}
use Rattle.model_values.specs.Cells.{heap_bytes, cell_size}
use Rattle.model_values.specs.Later.{Bounded, Grows}
use Rattle.model_values.specs.Limits.{Limits}
use Rattle.model_values.proofs.CellGrowth.{all_append}
use Rattle.model_values.proofs.LaterLaws.{all_weaker}
use Rattle.model_values.specs.declared.cell.Cell.{Cell}
use Rattle.model_values.specs.declared.cell.Binding.{Binding}
use Rattle.model_values.specs.declared.limit.LimitKind.{LimitKind}
use Rattle.model_values.specs.declared.limit.LimitKind.TheVariants.{FlowNodes}
use Rattle.model_run.specs.declared.flow.FlowNode.{FlowNode}
use Rattle.model_run.specs.declared.request.Request.{Request}
use Rattle.model_run.specs.declared.request.Request.TheVariants.{Node as NodeRequest, Task as TaskRequest, Input as InputRequest}
use Rattle.model_run.specs.declared.request.OpenRequest.{OpenRequest}
use Rattle.model_run.specs.declared.site.Site.{Site}
use Rattle.model_run.specs.State.{Common, World, Env}
use Rattle.model_run.specs.FlowNodes.{else_limit, node_limit, line_limit, noted_limit}
use Rattle.model_run.specs.LogText.{before_line, line}
use Rattle.model_run.specs.Names.{same_text, look, first_of, with_binding, bound}
use Rattle.model_run.specs.Steps.{with_request}
use Rattle.model_run.specs.Fitting.{IsBefore, StartsAt, NodesFit, NamesRise, RequestFits, most_nodes}
use Rattle.run_laws.specs.Bounds.{InBounds, HasRoom}

-- requests
asks_longer : (site : Site) (n m : ℕ) → n ≤ m → (r : Request) → RequestFits site n r → RequestFits site m r
asks_longer site n m le (NodeRequest label) h = h
asks_longer site n m le (TaskRequest executor workspace folder env script status keep taken out) h = (h.0, omega (arith, h.1, le))
asks_longer site n m le (InputRequest id) h = h

pub all_longer : (site : Site) (n m : ℕ) → n ≤ m → (rs : List OpenRequest) → AllAre (λ r. RequestFits site n r.request) rs → AllAre (λ r. RequestFits site m r.request) rs
all_longer site n m le rs h = all_weaker _ _ (λ r x. asks_longer site n m le r.request x) rs h

pub line_longer : (text log : List ℕ) → length log ≤ length (line text log)
line_longer text log = omega (arith, length-append log (before_line (last_or None log) ++ (text ++ 10 ∷ [])))

-- a change of nothing that is counted but the log and the requests
pub bounds_beside : (ended : Bool) (site : Site) (u v : Common) → InBounds ended site u → v.cells ≡ u.cells → v.binding ≡ u.binding → v.nodes ≡ u.nodes → v.next_request ≡ u.next_request → AllAre (λ r. RequestFits site (length v.log) r.request) v.requests → InBounds ended site v
bounds_beside ended site u v h c b n q asks = record {
  short = subst (AllAre (λ x. cell_size x < 2147483648)) (sym c) h.short;
  few_cells = subst (λ (cs : List Cell). length cs < 4294967296) (sym c) h.few_cells;
  few_bytes = subst (λ cs. heap_bytes cs ≤ 4611686018427387904) (sym c) h.few_bytes;
  names = subst NamesRise (sym b) h.names;
  few_nodes = subst (λ (ns : List FlowNode). length ns ≤ most_nodes ended) (sym n) h.few_nodes;
  nodes = subst (NodesFit 2) (sym n) h.nodes;
  few_requests = subst (λ (ns : List FlowNode). v.next_request ≤ 100000000 + length ns) (sym n) (subst (λ k. k ≤ 100000000 + length u.nodes) (sym q) h.few_requests);
  asks = asks;
}

-- and where the requests stay too
pub bounds_aside : (ended : Bool) (site : Site) (u v : Common) → InBounds ended site u → v.cells ≡ u.cells → v.binding ≡ u.binding → v.nodes ≡ u.nodes → v.requests ≡ u.requests → v.next_request ≡ u.next_request → length u.log ≤ length v.log → InBounds ended site v
bounds_aside ended site u v h c b n r q l =
    bounds_beside ended site u v h c b n q (subst (AllAre (λ r. RequestFits site (length v.log) r.request)) (sym r) (all_longer site (length u.log) (length v.log) l u.requests h.asks))

-- cells that an operation on values makes
pub bounds_cells : (site : Site) (u : Common) (l : Limits) (rule : ℕ → List Binding → Type 0) (given result : Type 0) (h : List Cell) → l.cells < 4294967296 → l.bytes < 2147483648 → Grows l rule u.cells given h result → InBounds false site u → InBounds false site (record u { cells = h })
bounds_cells site u l rule given result h few small grown b =
    let low : length u.cells < 4294967296 = b.few_cells in
    let fits : Bounded 4294967295 4611686018427387904 h = grown.bounds 4294967295 4611686018427387904 (omega (arith, few)) (omega (arith, small)) (record { cells_fit = omega (arith, low); bytes_fit = b.few_bytes }) in
    let many : length h ≤ 4294967295 = fits.cells_fit in
    let sizes : AllAre (λ c. cell_size c ≤ 2147483647) h = grown.sizes 2147483647 (omega (arith, small)) (all_weaker (λ c. cell_size c < 2147483648) (λ c. cell_size c ≤ 2147483647) (λ c x. omega (arith, x)) u.cells b.short) in
    record {
      short = all_weaker (λ c. cell_size c ≤ 2147483647) (λ c. cell_size c < 2147483648) (λ c x. omega (arith, x)) h sizes;
      few_cells = omega (arith, many);
      few_bytes = fits.bytes_fit;
      names = b.names;
      few_nodes = b.few_nodes;
      nodes = b.nodes;
      few_requests = b.few_requests;
      asks = b.asks;
    }

-- a flow node behind those that are there
pub nodes_more : (id : ℕ) (ns : List FlowNode) (n : FlowNode) (m : ℕ) → m ≡ length ns + id → n.id ≡ m → StartsAt n.kind m n.start → AllAre (IsBefore m) n.parents → NodesFit id ns → NodesFit id (ns ++ n ∷ [])
nodes_more id [] n m e is start parents h =
    let same : m ≡ id = omega (arith, e) in
    subst (λ k. NodesFit k (n ∷ [])) same (is, start, parents, tt)
nodes_more id (x ∷ ns) n m e is start parents h = (h.0, h.1, h.2, nodes_more (suc id) ns n m (omega (arith, e)) is start parents h.3)

pub bounds_node : (ended : Bool) (site : Site) (u v : Common) (n : FlowNode) → InBounds false site u → length u.nodes < most_nodes ended → n.id ≡ length u.nodes + 2 → StartsAt n.kind (length u.nodes + 2) n.start → AllAre (IsBefore (length u.nodes + 2)) n.parents
    → v.cells ≡ u.cells → v.binding ≡ u.binding → v.nodes ≡ u.nodes ++ n ∷ [] → v.next_request ≡ u.next_request → AllAre (λ r. RequestFits site (length v.log) r.request) v.requests → InBounds ended site v
bounds_node ended site u v n h few is start parents c b e q asks =
    let more : length v.nodes ≡ length u.nodes + 1 = ap length e ∙ length-append u.nodes (n ∷ []) in
    let low : u.next_request ≤ 100000000 + length u.nodes = h.few_requests in
    record {
      short = subst (AllAre (λ x. cell_size x < 2147483648)) (sym c) h.short;
      few_cells = subst (λ (cs : List Cell). length cs < 4294967296) (sym c) h.few_cells;
      few_bytes = subst (λ cs. heap_bytes cs ≤ 4611686018427387904) (sym c) h.few_bytes;
      names = subst NamesRise (sym b) h.names;
      few_nodes = omega (arith, more, few);
      nodes = subst (NodesFit 2) (sym e) (nodes_more 2 u.nodes n (length u.nodes + 2) refl is start parents h.nodes);
      few_requests = omega (arith, more, low, q);
      asks = asks;
    }

-- where it meets no limit there was room for it
none_if : (b : Bool) (k : LimitKind) → (if b then None else Some k) ≡ None → b ≡ true
none_if true k h = refl
none_if false k h = absurd (cc)

first_none : (x y : Option LimitKind) → else_limit x y ≡ None → x ≡ None
first_none None y h = refl
first_none (Some k) y h = absurd (cc)

pub node_room : (text : List ℕ) (w : World) → noted_limit text w ≡ None → length w.shared.nodes < w.setting.limits.flow_nodes
node_room text w h = ltb-true (length w.shared.nodes) w.setting.limits.flow_nodes (none_if _ FlowNodes (first_none (node_limit w) (line_limit text w) h))

-- and behind it there is room for a request
pub room_behind : (u v : Common) (n : FlowNode) → u.next_request ≤ 100000000 + length u.nodes → v.nodes ≡ u.nodes ++ n ∷ [] → v.next_request ≡ u.next_request → HasRoom v
room_behind u v n h e q =
    let more : length v.nodes ≡ length u.nodes + 1 = ap length e ∙ length-append u.nodes (n ∷ []) in
    omega (arith, more, h, q)

-- a request
pub bounds_asks : (site : Site) (r : Request) (w : World) → InBounds false site w.shared → HasRoom w.shared → RequestFits site (length w.shared.log) r → InBounds false site (with_request r w).shared
bounds_asks site r w h room fits =
    let low : suc w.shared.next_request ≤ 100000000 + length w.shared.nodes = room in
    record {
      short = h.short;
      few_cells = h.few_cells;
      few_bytes = h.few_bytes;
      names = h.names;
      few_nodes = h.few_nodes;
      nodes = h.nodes;
      few_requests = omega (arith, low);
      asks = all_append (λ r. RequestFits site (length w.shared.log) r.request) w.shared.requests ((record { number = w.shared.next_request; thread = w.own.number; request = r }) ∷ []) h.asks (fits, tt);
    }

-- Binding variables: one that has no name yet comes between those with lower names and those with higher ones.
other_less : (x y : List ℕ) → is_lt (slice_cmp nat_cmp x y) ≡ false → same_text y x ≡ false → is_lt (slice_cmp nat_cmp y x) ≡ true
other_less x y low other = one (slice_cmp nat_cmp x y) refl low
  where
    one : (o : Ordering) → slice_cmp nat_cmp x y ≡ o → is_lt o ≡ false → is_lt (slice_cmp nat_cmp y x) ≡ true
    one Less e l = absurd (cc)
    one Equal e l =
        let same : slice_cmp nat_cmp y x ≡ Equal = nat_list_cmp_total.antisymm y x ∙ ap ordering_reverse e in
        let told : same_text y x ≡ true = texts_ties y x ∙ ap is_eq same in
        absurd (cc)
    one Greater e l = ap is_lt (nat_list_cmp_total.antisymm y x ∙ ap ordering_reverse e)

unfound : (x : List ℕ) (b : Binding) (bs : Env) (t : Bool) → same_text b.name x ≡ t → (if t then Some b.cell else look x bs) ≡ None → (same_text b.name x ≡ false) × (look x bs ≡ None)
unfound x b bs true e n = absurd (cc)
unfound x b bs false e n = (e, n)

-- the first of these has a higher name
abbrev Above : Binding → List Binding → Type 0
Above b [] = Unit {0}
Above b (d ∷ ds) = is_lt (slice_cmp nat_cmp b.name d.name) ≡ true

rises_behind : (b : Binding) (ds : List Binding) → Above b ds → NamesRise ds → NamesRise (b ∷ ds)
rises_behind b [] up h = tt
rises_behind b (d ∷ ds) up h = (up, h)

above_first : (b : Binding) (ds : List Binding) → NamesRise (b ∷ ds) → Above b ds
above_first b [] h = tt
above_first b (d ∷ ds) h = h.0

rises_rest : (b : Binding) (ds : List Binding) → NamesRise (b ∷ ds) → NamesRise ds
rises_rest b [] h = tt
rises_rest b (d ∷ ds) h = h.1

module _ (x : List ℕ) (c : ℕ) where
  above_with : (b : Binding) (ds : List Binding) → is_lt (slice_cmp nat_cmp b.name x) ≡ true → Above b ds → Above b (with_binding x c ds)
  above_with b [] up h = up
  above_with b (d ∷ ds) up h = one (is_lt (slice_cmp nat_cmp x d.name))
    where
      one : (t : Bool) → Above b (if t then record { name = x; cell = c } ∷ d ∷ ds else d ∷ with_binding x c ds)
      one true = up
      one false = h

  names_with : (bs : List Binding) → NamesRise bs → look x bs ≡ None → NamesRise (with_binding x c bs)
  names_with [] h new = tt
  names_with (b ∷ bs) h new =
      let none : (same_text b.name x ≡ false) × (look x bs ≡ None) = unfound x b bs (same_text b.name x) refl new in
      one (is_lt (slice_cmp nat_cmp x b.name)) refl none.0 (names_with bs (rises_rest b bs h) none.1)
    where
      one : (t : Bool) → is_lt (slice_cmp nat_cmp x b.name) ≡ t → same_text b.name x ≡ false → NamesRise (with_binding x c bs) → NamesRise (if t then record { name = x; cell = c } ∷ b ∷ bs else b ∷ with_binding x c bs)
      one true e other more = (e, h)
      one false e other more = rises_behind b (with_binding x c bs) (above_with b bs (other_less x b.name e other) (above_first b bs h)) more

  pub bounds_bound : (site : Site) (w : World) → InBounds false site w.shared → look x w.shared.binding ≡ None → InBounds false site (bound x c w).shared
  bounds_bound site w h new = record { short = h.short; few_cells = h.few_cells; few_bytes = h.few_bytes; names = names_with w.shared.binding h.names new; few_nodes = h.few_nodes; nodes = h.nodes; few_requests = h.few_requests; asks = h.asks }

pub unbound : (o p : Option ℕ) → first_of o p ≡ None → p ≡ None
unbound None p e = e
unbound (Some c) p e = absurd (cc)
