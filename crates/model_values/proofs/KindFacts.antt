-- What the kind of a value says of its cell.
use Rattle.std.proofs.Common.{◌≡◌, ℕ, List, Option, Some, None, sym, subst, refl}
use Rattle.std.specs.Prelude.{slice_get}
use Rattle.model_values.specs.Fitting.{HasText, HasClosure, HasThrowable, IsIn}
use Rattle.model_values.specs.Kinds.{Kind, text, items, pairs, closure, thrown, cell_kind, kind}
use Rattle.model_values.specs.Types.{Value, Null, Truth, Whole, InCell, Cell, Variable, TextCell, ListCell, MapCell, ClosureCell, ThrownCell}

-- a list, a map, a closure and a throwable stand in the cell that their kind names
abbrev pub KindFits : List Cell → Kind → Type 0
KindFits h (items c vs) = slice_get h c ≡ Some (ListCell vs)
KindFits h (pairs c es) = slice_get h c ≡ Some (MapCell es)
KindFits h (closure c) = HasClosure (slice_get h c)
KindFits h (thrown c class m) = HasThrowable (slice_get h c)
KindFits h k = Unit {0}

cell_kind_fits : (h : List Cell) (c : ℕ) (o : Option Cell) → slice_get h c ≡ o → KindFits h (cell_kind c o)
cell_kind_fits h c None e = tt
cell_kind_fits h c (Some (Variable v)) e = tt
cell_kind_fits h c (Some (TextCell t)) e = tt
cell_kind_fits h c (Some (ListCell vs)) e = e
cell_kind_fits h c (Some (MapCell es)) e = e
cell_kind_fits h c (Some (ClosureCell node env)) e = subst HasClosure (sym e) tt
cell_kind_fits h c (Some (ThrownCell class m)) e = subst HasThrowable (sym e) tt

pub kind_fits : (h : List Cell) (v : Value) → KindFits h (kind h v)
kind_fits h Null = tt
kind_fits h (Truth b) = tt
kind_fits h (Whole x) = tt
kind_fits h (InCell c) = cell_kind_fits h c (slice_get h c) refl

cell_is_text : (c : ℕ) (o : Option Cell) (t : List ℕ) → cell_kind c o ≡ text t → HasText o
cell_is_text c None t e = absurd (cc)
cell_is_text c (Some (TextCell s)) t e = tt
cell_is_text c (Some (Variable v)) t e = absurd (cc)
cell_is_text c (Some (ListCell vs)) t e = absurd (cc)
cell_is_text c (Some (MapCell es)) t e = absurd (cc)
cell_is_text c (Some (ClosureCell node env)) t e = absurd (cc)
cell_is_text c (Some (ThrownCell class m)) t e = absurd (cc)

-- a value whose kind is a text is in a text's cell
pub is_text : (h : List Cell) (v : Value) (t : List ℕ) → kind h v ≡ text t → IsIn HasText h v
is_text h Null t e = absurd (cc)
is_text h (Truth b) t e = absurd (cc)
is_text h (Whole x) t e = absurd (cc)
is_text h (InCell c) t e = cell_is_text c (slice_get h c) t e
