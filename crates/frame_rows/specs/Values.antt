-- Whether the values of a frame are of the sorts of its row, as tests (this product's own).
use Rattle.std.specs.Prelude.{ℕ, ◌-◌, nat_lt, Bool, true, false, not, ◌&&◌, ◌||◌, List, [], ◌∷◌, length, Option, Some, None, slice_get, pos}
use Rattle.model_run.specs.ValueTypes.{Value, Null, Truth, Whole, InCell, Cell}
use Rattle.model_values.specs.declared.cell.Cell.TheVariants as cell
use Rattle.model_run.specs.FrameTable.{Sort, Any, Up_to, A_count, Flag, Flow_node, A_closure, A_throwable, Text_or_null, Further, No_more, One_more, Any_more}

-- the cell that a value names is there
abbrev pub is_there : List Cell → Value → Bool
is_there h (InCell c) = nat_lt c (length h)
is_there h v = true

-- a cell of this kind
abbrev pub is_closure : Option Cell → Bool
is_closure (Some (cell.Closure k env)) = true
is_closure o = false

abbrev pub is_throwable : Option Cell → Bool
is_throwable (Some (cell.Thrown c m)) = true
is_throwable o = false

abbrev pub is_text : Option Cell → Bool
is_text (Some (cell.Text t)) = true
is_text o = false

-- the whole number from 0 on that a value is
abbrev pub natural_in : Value → Option ℕ
natural_in (Whole (pos n)) = Some n
natural_in v = None

abbrev pub at_most : ℕ → Option ℕ → Bool
at_most m None = false
at_most m (Some n) = not (nat_lt m n)

abbrev pub is_number : Option ℕ → Bool
is_number None = false
is_number (Some n) = true

-- flow nodes are numbered from 2
abbrev pub is_node : ℕ → Option ℕ → Bool
is_node nodes None = false
is_node nodes (Some n) = nat_lt 1 n && nat_lt (n - 2) nodes

-- the cell that a value names
abbrev pub cell_in : List Cell → Value → Option Cell
cell_in h (InCell c) = slice_get h c
cell_in h v = None

abbrev pub is_null : Value → Bool
is_null Null = true
is_null v = false

abbrev pub is_truth : Value → Bool
is_truth (Truth b) = true
is_truth v = false

-- whether a value is of a sort, among these cells and so many flow nodes
abbrev pub value_fits : List Cell → ℕ → Sort → Value → Bool
value_fits h nodes Any v = is_there h v
value_fits h nodes (Up_to m) v = at_most m (natural_in v)
value_fits h nodes A_count v = is_number (natural_in v)
value_fits h nodes Flag v = is_truth v
value_fits h nodes Flow_node v = is_node nodes (natural_in v)
value_fits h nodes A_closure v = is_closure (cell_in h v)
value_fits h nodes A_throwable v = is_throwable (cell_in h v)
value_fits h nodes Text_or_null v = is_null v || is_text (cell_in h v)

abbrev pub all_there : List Cell → List Value → Bool
all_there h [] = true
all_there h (v ∷ vs) = is_there h v && all_there h vs

-- so many further values, of any sort
abbrev pub further_fit : List Cell → Further → List Value → Bool
further_fit h further [] = true
further_fit h No_more (v ∷ vs) = false
further_fit h One_more (v ∷ []) = is_there h v
further_fit h One_more (v ∷ w ∷ vs) = false
further_fit h Any_more (v ∷ vs) = is_there h v && all_there h vs

-- a value of each sort in turn, and then the further ones
abbrev pub values_fit : List Cell → ℕ → Further → List Sort → List Value → Bool
values_fit h nodes further [] vs = further_fit h further vs
values_fit h nodes further (x ∷ xs) [] = false
values_fit h nodes further (x ∷ xs) (v ∷ vs) = value_fits h nodes x v && values_fit h nodes further xs vs
