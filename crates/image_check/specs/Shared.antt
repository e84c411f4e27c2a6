-- The tests of what all threads of an image share, but for its cells.
use Rattle.std.specs.Prelude.{ℕ, ◌+◌, ◌-◌, nat_eq, nat_lt, Bool, true, not, ◌&&◌, List, [], ◌∷◌, length, Option, Some, None, slice_get}
use Rattle.std.specs.Cmp.Lexicographic.{slice_cmp}
use Rattle.std.specs.Ordering.{nat_cmp, is_lt}
use Rattle.model_values.specs.declared.cell.Binding.{Binding}
use Rattle.model_run.specs.declared.flow.FlowNode.{FlowNode}
use Rattle.model_run.specs.declared.flow.NodeKind.{NodeKind}
use Rattle.model_run.specs.declared.flow.NodeKind.TheVariants.{EndBody as EndBodyNode, EndBlock as EndBlockNode}
use Rattle.model_run.specs.Fitting.{most_nodes}
use Rattle.image_form.specs.declared.image.Image.{Image}
use Rattle.script_names.specs.Variables.{is_variable}
use Rattle.image_check.specs.declared.finding.Finding.{Finding}
use Rattle.image_check.specs.declared.finding.CheckKind.TheVariants as check
use Rattle.image_check.specs.Findings.{outside}
use Rattle.image_check.specs.Scans.{need, ◌then◌, each}

-- a next number is at most 100,000,000 above the number of nodes
abbrev pub is_low : Image → ℕ → Bool
is_low i n = not (nat_lt (length i.nodes) (n - 100000000))

-- each of these is below
abbrev pub all_below : {A : Type 0} → (A → ℕ) → ℕ → List A → Bool
all_below number n [] = true
all_below number n (x ∷ xs) = nat_lt (number x) n && all_below number n xs

abbrev pub next_request_fits : Image → Bool
next_request_fits i =
    is_low i i.next_request
    && (all_below (λ r. r.number) i.next_request i.requests && all_below (λ x. x.request) i.next_request i.held)

abbrev pub next_thread_fits : Image → Bool
next_thread_fits i = is_low i i.next_thread && all_below (λ t. t.number) i.next_thread i.threads

-- the name before is lower, byte by byte
abbrev pub is_above : Option Binding → Binding → Bool
is_above None b = true
is_above (Some a) b = is_lt (slice_cmp nat_cmp a.name b.name)

-- names rise, and each stands for a variable
abbrev pub binding_fault : Image → ℕ → Option Binding → Binding → Option Finding
binding_fault i place before b = need (is_above before b) (outside check.Values) then need (is_variable (slice_get i.cells b.cell)) (outside check.MissingCell)

-- a flow node before this one
abbrev pub is_before : ℕ → ℕ → Bool
is_before id n = nat_lt 1 n && nat_lt n id

abbrev pub starts_at : NodeKind → ℕ → ℕ → Bool
starts_at EndBodyNode id start = is_before id start
starts_at EndBlockNode id start = is_before id start
starts_at k id start = nat_eq start 0

abbrev pub all_before : ℕ → List ℕ → Bool
all_before id [] = true
all_before id (n ∷ ns) = is_before id n && all_before id ns

-- flow nodes are numbered one after the other from 2, and name nodes before them
abbrev pub node_fits : ℕ → FlowNode → Bool
node_fits id n = nat_eq n.id id && (starts_at n.kind id n.start && all_before id n.parents)

abbrev pub node_fault : ℕ → Option FlowNode → FlowNode → Option Finding
node_fault place before n = need (node_fits (place + 2) n) (outside check.Node)

abbrev pub count_fits : Image → Bool
count_fits i = nat_lt 0 (length i.nodes) && not (nat_lt (most_nodes i.ended) (length i.nodes))

-- the first fault of the next numbers
abbrev pub number_fault : Image → Option Finding
number_fault i = need (next_request_fits i) (outside check.Request) then need (next_thread_fits i) (outside check.Parent)

-- the first fault of the parts in front of the cells
abbrev pub head_fault : Image → Option Finding
head_fault i = number_fault i then each (binding_fault i) 0 None i.bindings

-- the first fault of the flow nodes
abbrev pub nodes_fault : Image → Option Finding
nodes_fault i = need (count_fits i) (outside check.Node) then each node_fault 0 None i.nodes
