-- Where no test of the numbers, the binding and the flow nodes fails, they are those of a sound build, and the other way round.
use Rattle.std.proofs.Common.{◌≡◌, ◌<◌, ◌≤◌, ◌+◌, ◌-◌, ℕ, suc, true, not, List, [], ◌∷◌, length, Option, Some, None, refl, subst, arith}
use Rattle.std.specs.Prelude.{nat_lt, nat_eq, ◌&&◌, slice_get}
use Rattle.std.specs.List.{AllByRecursion as AllAre}
use Rattle.model_values.specs.declared.cell.Binding.{Binding}
use Rattle.model_values.specs.declared.cell.Cell.{Cell}
use Rattle.model_values.specs.Fitting.{HasVariable}
use Rattle.model_run.specs.declared.flow.FlowNode.{FlowNode}
use Rattle.model_run.specs.declared.flow.NodeKind.{NodeKind}
use Rattle.model_run.specs.declared.flow.NodeKind.TheVariants as kind
use Rattle.model_run.specs.Fitting.{IsBefore, NamesRise, NodesFit, StartsAt, most_nodes}
use Rattle.image_form.specs.declared.image.Image.{Image}
use Rattle.image_check.specs.declared.finding.CheckKind.TheVariants as check
use Rattle.image_check.specs.Findings.{outside}
use Rattle.image_check.specs.Scans.{need, each}
use Rattle.script_names.specs.Variables.{is_variable}
use Rattle.script_names.proofs.NameLaws.{variable, variable_so}
use Rattle.image_check.specs.Shared.{all_before, all_below, binding_fault, count_fits, head_fault, is_above, is_before, is_low, next_request_fits, next_thread_fits, node_fault, node_fits, nodes_fault, number_fault, starts_at}
use Rattle.image_check.proofs.Testing.{Tests, Passes, both, alike, at_most, less, same, needed, after, alike_passes}

low : (i : Image) (n : ℕ) → Tests (is_low i n) (n ≤ 100000000 + length i.nodes)
low i n = alike (is_low i n) (at_most (n - 100000000) (length i.nodes)) (λ h. omega (arith, h)) (λ h. omega (arith, h))

below : {A : Type 0} (f : A → ℕ) (n : ℕ) (xs : List A) → Tests (all_below f n xs) (AllAre (λ x. f x < n) xs)
below f n [] = record { holds = λ e. tt; told = λ h. refl }
below f n (x ∷ xs) = both (nat_lt (f x) n) (all_below f n xs) (less (f x) n) (below f n xs)

variable_tests : (o : Option Cell) → Tests (is_variable o) (HasVariable o)
variable_tests o = record { holds = variable o; told = variable_so o }

-- the names from one before them on
abbrev RiseFrom : Option Binding → List Binding → Type 0
RiseFrom None bs = NamesRise bs
RiseFrom (Some a) bs = NamesRise (a ∷ bs)

rise_on : (before : Option Binding) (b : Binding) (bs : List Binding) → is_above before b ≡ true → NamesRise (b ∷ bs) → RiseFrom before (b ∷ bs)
rise_on None b bs e h = h
rise_on (Some a) b bs e h = (e, h)

rise_first : (before : Option Binding) (b : Binding) (bs : List Binding) → RiseFrom before (b ∷ bs) → is_above before b ≡ true
rise_first None b bs h = refl
rise_first (Some a) b bs h = h.0

rise_rest : (before : Option Binding) (b : Binding) (bs : List Binding) → RiseFrom before (b ∷ bs) → NamesRise (b ∷ bs)
rise_rest None b bs h = h
rise_rest (Some a) b bs h = h.1

rise_end : (before : Option Binding) → RiseFrom before []
rise_end None = tt
rise_end (Some a) = tt

binding : (i : Image) (place : ℕ) (before : Option Binding) (b : Binding) → Passes (binding_fault i place before b) ((is_above before b ≡ true) × HasVariable (slice_get i.cells b.cell))
binding i place before b =
    after (need (is_above before b) (outside check.Values)) (need (is_variable (slice_get i.cells b.cell)) (outside check.MissingCell))
    (needed (is_above before b) (outside check.Values) (record { holds = λ e. e; told = λ h. h }))
    (needed (is_variable (slice_get i.cells b.cell)) (outside check.MissingCell) (variable_tests (slice_get i.cells b.cell)))

bindings : (i : Image) (place : ℕ) (before : Option Binding) (bs : List Binding) → Passes (each (binding_fault i) place before bs) (RiseFrom before bs × AllAre (λ b. HasVariable (slice_get i.cells b.cell)) bs)
bindings i place before [] = record { holds = λ e. (rise_end before, tt); told = λ h. refl }
bindings i place before (b ∷ bs) =
    let here = binding i place before b in
    let rest = bindings i (suc place) (Some b) bs in
    alike_passes (each (binding_fault i) place before (b ∷ bs)) (after (binding_fault i place before b) (each (binding_fault i) (suc place) (Some b) bs) here rest)
    (λ h. (rise_on before b bs h.0.0 h.1.0, (h.0.1, h.1.1)))
    (λ h. ((rise_first before b bs h.0, h.1.0), (rise_rest before b bs h.0, h.1.1)))

before_it : (id n : ℕ) → Tests (is_before id n) (IsBefore id n)
before_it id n = both (nat_lt 1 n) (nat_lt n id) (alike (nat_lt 1 n) (less 1 n) (λ h. omega (arith, h)) (λ h. omega (arith, h))) (less n id)

starts : (k : NodeKind) (id s : ℕ) → Tests (starts_at k id s) (StartsAt k id s)
starts kind.EndBody id s = before_it id s
starts kind.EndBlock id s = before_it id s
starts k id s = same s 0

parents : (id : ℕ) (ns : List ℕ) → Tests (all_before id ns) (AllAre (IsBefore id) ns)
parents id [] = record { holds = λ e. tt; told = λ h. refl }
parents id (n ∷ ns) = both (is_before id n) (all_before id ns) (before_it id n) (parents id ns)

node : (id : ℕ) (n : FlowNode) → Tests (node_fits id n) ((n.id ≡ id) × (StartsAt n.kind id n.start × AllAre (IsBefore id) n.parents))
node id n = both (nat_eq n.id id) (starts_at n.kind id n.start && all_before id n.parents) (same n.id id) (both (starts_at n.kind id n.start) (all_before id n.parents) (starts n.kind id n.start) (parents id n.parents))

nodes : (place id : ℕ) (before : Option FlowNode) (ns : List FlowNode) → place + 2 ≡ id → Passes (each node_fault place before ns) (NodesFit id ns)
nodes place id before [] at = record { holds = λ e. tt; told = λ h. refl }
nodes place id before (n ∷ ns) at =
    let here : Passes (need (node_fits (place + 2) n) (outside check.Node)) ((n.id ≡ place + 2) × (StartsAt n.kind (place + 2) n.start × AllAre (IsBefore (place + 2)) n.parents)) = needed (node_fits (place + 2) n) (outside check.Node) (node (place + 2) n) in
    let rest = nodes (suc place) (suc id) (Some n) ns (omega (arith, at)) in
    alike_passes (each node_fault place before (n ∷ ns)) (after (node_fault place before n) (each node_fault (suc place) (Some n) ns) (subst (λ m. Passes (node_fault place before n) ((n.id ≡ m) × (StartsAt n.kind m n.start × AllAre (IsBefore m) n.parents))) at here) rest)
    (λ h. (h.0.0, h.0.1.0, h.0.1.1, h.1))
    (λ h. ((h.0, (h.1, h.2)), h.3))

-- what the tests of the numbers and the binding say
pub record HeadStands (i : Image) : Type 0 where
  pub few_requests : i.next_request ≤ 100000000 + length i.nodes
  pub requests : AllAre (λ r. r.number < i.next_request) i.requests
  pub held : AllAre (λ x. x.request < i.next_request) i.held
  pub few_threads : i.next_thread ≤ 100000000 + length i.nodes
  pub threads : AllAre (λ t. t.number < i.next_thread) i.threads
  pub names : NamesRise i.bindings
  pub binding : AllAre (λ b. HasVariable (slice_get i.cells b.cell)) i.bindings

pub head_stands : (i : Image) → Passes (head_fault i) (HeadStands i)
head_stands i =
    let open_ones = all_below (λ r. r.number) i.next_request i.requests in
    let held_ones = all_below (λ x. x.request) i.next_request i.held in
    let threads = all_below (λ t. t.number) i.next_thread i.threads in
    let request = both (is_low i i.next_request) (open_ones && held_ones) (low i i.next_request) (both open_ones held_ones (below (λ r. r.number) i.next_request i.requests) (below (λ x. x.request) i.next_request i.held)) in
    let thread = both (is_low i i.next_thread) threads (low i i.next_thread) (below (λ t. t.number) i.next_thread i.threads) in
    let numbers = after (need (next_request_fits i) (outside check.Request)) (need (next_thread_fits i) (outside check.Parent)) (needed (next_request_fits i) (outside check.Request) request) (needed (next_thread_fits i) (outside check.Parent) thread) in
    alike_passes (head_fault i) (after (number_fault i) (each (binding_fault i) 0 None i.bindings) numbers (bindings i 0 None i.bindings))
    (λ h. record {
      few_requests = h.0.0.0;
      requests = h.0.0.1.0;
      held = h.0.0.1.1;
      few_threads = h.0.1.0;
      threads = h.0.1.1;
      names = h.1.0;
      binding = h.1.1;
    })
    (λ h. (((h.few_requests, (h.requests, h.held)), (h.few_threads, h.threads)), (h.names, h.binding)))

-- and those of the flow nodes
pub record NodesStand (i : Image) : Type 0 where
  pub some_node : 0 < length i.nodes
  pub few_nodes : length i.nodes ≤ most_nodes i.ended
  pub nodes : NodesFit 2 i.nodes

pub nodes_stand : (i : Image) → Passes (nodes_fault i) (NodesStand i)
nodes_stand i =
    let count = needed (count_fits i) (outside check.Node) (both (nat_lt 0 (length i.nodes)) (not (nat_lt (most_nodes i.ended) (length i.nodes))) (less 0 (length i.nodes)) (at_most (length i.nodes) (most_nodes i.ended))) in
    alike_passes (nodes_fault i) (after (need (count_fits i) (outside check.Node)) (each node_fault 0 None i.nodes) count (nodes 0 2 None i.nodes refl))
    (λ h. record { some_node = h.0.0; few_nodes = h.0.1; nodes = h.1 })
    (λ h. ((h.some_node, h.few_nodes), h.nodes))
