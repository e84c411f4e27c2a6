-- What leads from one image to a later one, part by part (this product's own; docs/FORMATS.md, "Records of changes").
use Rattle.std.specs.Prelude.{◌≡◌, ℕ, true, List, Some}
use Rattle.std.specs.Ordering.{nat_cmp, on}
use Rattle.std.specs.Cmp.Lexicographic.{slice_cmp}
use Rattle.model_values.specs.declared.cell.Binding.{Binding}
use Rattle.model_values.specs.declared.cell.Cell.{Cell}
use Rattle.model_run.specs.declared.flow.FlowNode.{FlowNode}
use Rattle.image_form.specs.declared.image.Image.{Image}
use Rattle.delta_form.specs.Applying.{in_turn}
use Rattle.delta_form.specs.Changes.{Changing, changed, rising}
use Rattle.delta_form.specs.After.{after, binding_changes, put_cell, put_node, renewed}
use Rattle.delta_form.specs.declared.delta.Delta.{Delta}
use Rattle.delta_form.specs.declared.delta.NewNode.{NewNode}
use Rattle.delta_form.specs.declared.delta.NumberedCell.{NumberedCell}

-- The delta makes the image now of the image before.
abbrev pub LeadsTo : Image → Image → Delta → Type 0
LeadsTo before now d = after before d ≡ Some now

-- a flow node without its number
abbrev pub as_new : FlowNode → NewNode
as_new n = record { kind = n.kind; name = n.name; start = n.start; parents = n.parents }

-- these flow nodes are put behind those from before
abbrev pub PutsNodes : List FlowNode → List FlowNode → List NewNode → Type 0
PutsNodes before now news = in_turn put_node news before ≡ Some now

-- these cells are put among those from before, or behind them
abbrev pub PutsCells : List Cell → List Cell → List NumberedCell → Type 0
PutsCells before now cells = (in_turn put_cell cells before ≡ Some now) × (rising (on (λ c. c.number) nat_cmp) cells ≡ true)

-- these variables are put among those from before, where the names rise
abbrev pub PutsBindings : List Binding → List Binding → List Binding → Type 0
PutsBindings before now news = (changed binding_changes news before ≡ Some now) × (rising (on (λ b. b.name) (slice_cmp nat_cmp)) news ≡ true)

-- the items with these numbers are gone, and these changes are made
pub record Renews {C X : Type 0} (by : X → ℕ) (number : C → ℕ) (how : Changing C X) (before now : List X) (gone : List ℕ) (changes : List C) : Type 0 where
  pub made : renewed by number how gone changes before ≡ Some now
  pub gone_rise : rising nat_cmp gone ≡ true
  pub changes_rise : rising (on number nat_cmp) changes ≡ true
