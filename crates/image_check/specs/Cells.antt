-- The tests of the cells.
use Rattle.std.specs.Prelude.{ℕ, nat_lt, Bool, true, not, ◌&&◌, List, [], ◌∷◌, length, Option, None}
use Rattle.model_values.specs.declared.cell.Cell.{Cell}
use Rattle.model_values.specs.declared.cell.Cell.TheVariants as cell
use Rattle.model_values.specs.declared.key.Key.{Key}
use Rattle.model_values.specs.declared.value.Value.{Value}
use Rattle.model_values.specs.declared.value.Value.TheVariants.{Cell as InCell}
use Rattle.model_values.specs.Cells.{cell_size, heap_bytes}
use Rattle.model_run.specs.FrameTable.{is_closure_form}
use Rattle.model_run.specs.Nesting.{shape_at}
use Rattle.model_run.specs.Scoping.{names_at}
use Rattle.model_run.specs.Terms.{Term, nodes_of}
use Rattle.script_names.specs.Given.{are_named}
use Rattle.script_names.specs.Variables.{are_variables}
use Rattle.image_check.specs.declared.finding.Finding.{Finding}
use Rattle.image_check.specs.declared.finding.CheckKind.TheVariants as check
use Rattle.image_check.specs.Findings.{outside}
use Rattle.image_check.specs.Scans.{need, ◌then◌, each}

-- the node of a closure is a closure of the script
abbrev pub is_closure_at : Term → ℕ → Bool
is_closure_at root k = nat_lt k (length (nodes_of root)) && is_closure_form (shape_at root k).form

abbrev pub has_closure : Term → Cell → Bool
has_closure root (cell.Closure k env) = is_closure_at root k
has_closure root c = true

-- it holds fewer than 2147483648 bytes of text or entries
abbrev pub is_short : Cell → Bool
is_short c = nat_lt (cell_size c) 2147483648

-- the cell that a value names is there
abbrev pub is_there : List Cell → Value → Bool
is_there h (InCell c) = nat_lt c (length h)
is_there h v = true

abbrev pub are_there : List Cell → List Value → Bool
are_there h [] = true
are_there h (v ∷ vs) = is_there h v && are_there h vs

abbrev pub entries_there : List Cell → List (Key × Value) → Bool
entries_there h [] = true
entries_there h (e ∷ es) = is_there h e.1 && entries_there h es

-- the cells that a cell names are there, and those of a closure's names are variables
abbrev pub names_there : List Cell → Cell → Bool
names_there h (cell.Variable v) = is_there h v
names_there h (cell.List vs) = are_there h vs
names_there h (cell.Map es) = entries_there h es
names_there h (cell.Closure k env) = are_variables h env
names_there h c = true

-- a closure has the names that its node sees
abbrev pub sees_names : Term → Cell → Bool
sees_names root (cell.Closure k env) = are_named (names_at root k) env
sees_names root c = true

abbrev pub cell_fault : Term → List Cell → ℕ → Option Cell → Cell → Option Finding
cell_fault root h place before c =
    need (has_closure root c) (outside check.Node)
    then (need (is_short c) (outside check.Values)
    then (need (names_there h c) (outside check.MissingCell)
    then need (sees_names root c) (outside check.Name)))

-- cells have numbers of 4 bytes
abbrev pub are_few : List Cell → Bool
are_few h = nat_lt (length h) 4294967296

-- together they have at most so many heap bytes
abbrev pub are_small : List Cell → Bool
are_small h = not (nat_lt 4611686018427387904 (heap_bytes h))

abbrev pub cells_fault : Term → List Cell → Option Finding
cells_fault root h =
    need (are_few h) (outside check.MissingCell)
    then (each (cell_fault root h) 0 None h
    then need (are_small h) (outside check.Values))
