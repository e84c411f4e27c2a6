-- What a value is, with what its cell holds: the kinds by which the tables have their cases.
use Rattle.std.specs.Prelude.{ℕ, Bool, List, [], Option, Some, None, ℤ, slice_get, codes}
use Rattle.model_values.specs.Throwables.{class_name}
use Rattle.model_values.specs.Types.{Value, Null, Truth, Whole, InCell, Key, Cell, Variable, TextCell, ListCell, MapCell, ClosureCell, ThrownCell, Class}

pub data Kind : Type 0 where
  null : Kind
  flag : Bool → Kind
  number : ℤ → Kind
  text : List ℕ → Kind
  items : ℕ → List Value → Kind
  pairs : ℕ → List (Key × Value) → Kind
  closure : ℕ → Kind
  thrown : ℕ → Class → Option (List ℕ) → Kind

-- the kind of the cell with this number. The number of a variable, or of no cell, is no value of a script: it reads as null
abbrev pub cell_kind : ℕ → Option Cell → Kind
cell_kind c (Some (TextCell t)) = text t
cell_kind c (Some (ListCell vs)) = items c vs
cell_kind c (Some (MapCell es)) = pairs c es
cell_kind c (Some (ClosureCell node env)) = closure c
cell_kind c (Some (ThrownCell class m)) = thrown c class m
cell_kind c (Some (Variable v)) = null
cell_kind c None = null

abbrev pub kind : List Cell → Value → Kind
kind h Null = null
kind h (Truth b) = flag b
kind h (Whole x) = number x
kind h (InCell c) = cell_kind c (slice_get h c)

-- the class that messages name for a kind (null has none: its messages name none)
abbrev pub kind_name : Kind → List ℕ
kind_name null = []
kind_name (flag b) = codes "java.lang.Boolean"
kind_name (number x) = codes "java.lang.Integer"
kind_name (text t) = codes "java.lang.String"
kind_name (items c vs) = codes "java.util.ArrayList"
kind_name (pairs c es) = codes "java.util.LinkedHashMap"
kind_name (closure c) = codes "groovy.lang.Closure"
kind_name (thrown c class m) = class_name class
