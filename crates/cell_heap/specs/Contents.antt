-- What a cell holds.
use Rattle.std.specs.Prelude.{ℕ, List, [], length, Option, Some}
use Rattle.cell_heap.specs.ValueTypes.{Value, Key, Cell, TextCell, ListCell, MapCell}

-- the bytes of a text; none of another cell
abbrev pub text_in : Option Cell → List ℕ
text_in (Some (TextCell s)) = s
text_in _ = []

-- the entries of a list, and of a map; none of another cell
abbrev pub values_in : Option Cell → List Value
values_in (Some (ListCell vs)) = vs
values_in _ = []

abbrev pub pairs_in : Option Cell → List (Key × Value)
pairs_in (Some (MapCell es)) = es
pairs_in _ = []

-- how many entries a list or a map has
abbrev pub entry_count : Cell → ℕ
entry_count (ListCell vs) = length vs
entry_count (MapCell es) = length es
entry_count _ = 0
