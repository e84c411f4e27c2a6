-- What values and cells name is there: no cell names a number of no cell, and a name that a closure sees is a variable's
-- (this product's own).
use Rattle.std.specs.Prelude.{ℕ, ◌<◌, List, length, Option, Some, slice_get}
use Rattle.std.specs.List.{AllByRecursion as AllAre}
use Rattle.model_values.specs.Types.{Value, Null, Truth, Whole, InCell, Cell, Variable, TextCell, ListCell, MapCell, ClosureCell, ThrownCell}
use Rattle.model_values.specs.declared.cell.Binding.{Binding}

-- the cell that a value names is there
abbrev pub There : List Cell → Value → Type 0
There h (InCell c) = c < length h
There h v = Unit {0}

-- there is a cell, and it is of this kind
abbrev pub HasVariable : Option Cell → Type 0
HasVariable (Some (Variable v)) = Unit {0}
HasVariable o = ⊥

abbrev pub HasText : Option Cell → Type 0
HasText (Some (TextCell t)) = Unit {0}
HasText o = ⊥

abbrev pub HasList : Option Cell → Type 0
HasList (Some (ListCell vs)) = Unit {0}
HasList o = ⊥

abbrev pub HasMap : Option Cell → Type 0
HasMap (Some (MapCell es)) = Unit {0}
HasMap o = ⊥

abbrev pub HasClosure : Option Cell → Type 0
HasClosure (Some (ClosureCell node env)) = Unit {0}
HasClosure o = ⊥

abbrev pub HasThrowable : Option Cell → Type 0
HasThrowable (Some (ThrownCell class m)) = Unit {0}
HasThrowable o = ⊥

-- What a value is: a number, a truth value, one in a cell of some kind, or null instead.
abbrev pub IsNumber : List Cell → Value → Type 0
IsNumber h (Whole x) = Unit {0}
IsNumber h v = ⊥

abbrev pub IsFlag : List Cell → Value → Type 0
IsFlag h (Truth b) = Unit {0}
IsFlag h v = ⊥

abbrev pub IsIn : (Option Cell → Type 0) → List Cell → Value → Type 0
IsIn kind h (InCell c) = kind (slice_get h c)
IsIn kind h v = ⊥

abbrev pub IsNullOrIn : (Option Cell → Type 0) → List Cell → Value → Type 0
IsNullOrIn kind h Null = Unit {0}
IsNullOrIn kind h v = IsIn kind h v

-- what a cell names is there. The names of a closure are variables', and its node and names keep to a rule: that of the script
-- to which the node belongs
abbrev pub CellFits : (ℕ → List Binding → Type 0) → List Cell → Cell → Type 0
CellFits rule h (Variable v) = There h v
CellFits rule h (ListCell vs) = AllAre (There h) vs
CellFits rule h (MapCell es) = AllAre (λ e. There h e.1) es
CellFits rule h (ClosureCell node env) = rule node env × AllAre (λ b. HasVariable (slice_get h b.cell)) env
CellFits rule h c = Unit {0}

-- every cell names what is there
abbrev pub CellsFit : (ℕ → List Binding → Type 0) → List Cell → Type 0
CellsFit rule h = AllAre (CellFits rule h) h
