-- How flow nodes are spelled: without their numbers, which go up by one from 2.
use Rattle.std.specs.Prelude.{◌≡◌, ◌+◌, ℕ, nat_lt, List, [], ◌∷◌, length, Some, refl, slice_get}
use Rattle.std.proofs.Common.{ap, sym, arith}
use Rattle.field_form.specs.Forms.{Form, Lawful, of_some_parts, that_needs, if_room, pair, u32_form, bytes_form, list_of, many, numbered}
use Rattle.field_form.specs.FieldLaws.{u32_lawful, bytes_lawful}
use Rattle.field_form.specs.FormLaws.{of_some_parts_lawful, that_needs_lawful, if_room_lawful, pair_lawful, list_lawful, many_lawful}
use Rattle.field_form.specs.Numbered.{few_lawful}
use Rattle.model_run.specs.declared.flow.FlowNode.{FlowNode}
use Rattle.model_run.specs.declared.flow.NodeKind.{NodeKind}
use Rattle.model_run.specs.declared.flow.NodeKind.TheVariants as kind

abbrev pub node_kinds : List NodeKind
node_kinds = kind.Start ∷ kind.Atom ∷ kind.Block ∷ kind.Body ∷ kind.EndBody ∷ kind.EndBlock ∷ kind.End ∷ []

abbrev pub node_kind_number : NodeKind → ℕ
node_kind_number kind.Start = 0
node_kind_number kind.Atom = 1
node_kind_number kind.Block = 2
node_kind_number kind.Body = 3
node_kind_number kind.EndBody = 4
node_kind_number kind.EndBlock = 5
node_kind_number kind.End = 6

node_kind_found : (k : NodeKind) → slice_get node_kinds (node_kind_number k) ≡ Some k
node_kind_found = elim [ kind.Start ↦ refl | kind.Atom ↦ refl | kind.Block ↦ refl | kind.Body ↦ refl | kind.EndBody ↦ refl | kind.EndBlock ↦ refl | kind.End ↦ refl ]

abbrev pub node_kind_form : Form NodeKind
node_kind_form = numbered node_kind_number node_kinds

pub node_kind_lawful : Lawful node_kind_form
node_kind_lawful = few_lawful node_kind_number node_kinds node_kind_found refl (omega arith)

-- Node: kind, name, start, list of parents.
abbrev pub NodeParts : Type 0
NodeParts = NodeKind × (List ℕ × (ℕ × List ℕ))

abbrev pub parts_form : Form NodeParts
parts_form = pair node_kind_form (pair bytes_form (pair u32_form (many u32_form)))

abbrev pub node_parts : FlowNode → NodeParts
node_parts n = (n.kind, (n.name, (n.start, n.parents)))

abbrev pub with_id : ℕ → NodeParts → FlowNode
with_id id p = record { id = id; kind = p.0; name = p.1.0; start = p.1.1.0; parents = p.1.1.1 }

-- The number of a node is told by its place: the first node has number 2, and there is no number of 4294967296.
abbrev pub node_behind : List FlowNode → Form FlowNode
node_behind before = that_needs (λ n. (n.id ≡ length before + 2) × parts_form.Needs (node_parts n))
    (if_room (nat_lt (length before) 4294967294) (of_some_parts (with_id (length before + 2)) node_parts parts_form))

abbrev pub nodes_form : Form (List FlowNode)
nodes_form = list_of node_behind

parts_lawful : Lawful parts_form
parts_lawful = pair_lawful _ _ node_kind_lawful (pair_lawful _ _ bytes_lawful (pair_lawful _ _ u32_lawful (many_lawful _ u32_lawful)))

pub node_behind_lawful : (before : List FlowNode) → Lawful (node_behind before)
node_behind_lawful before = that_needs_lawful _ _ (if_room_lawful _ _ (of_some_parts_lawful (with_id (length before + 2)) node_parts _ (λ x. refl) parts_lawful))
    (λ n fits. (ap (λ (m : FlowNode). m.id) (sym fits.1.1), parts_lawful.needed (node_parts n) fits.1.0))

pub nodes_lawful : Lawful nodes_form
nodes_lawful = list_lawful node_behind node_behind_lawful
