-- What an assignment answers that writes nothing.
use Rattle.std.proofs.Common.{◌≡◌, ℕ, List, length, sym, ap, ap₂, ◌∙◌, refl}
use Rattle.std.specs.Prelude.{ℤ, codes}
use Rattle.model_values.specs.Index as model
use Rattle.model_values.specs.Index.{place_of, set_at, set_kind_at, set_kind_property, set_list_at}
use Rattle.model_values.specs.Kinds.{items, number, kind}
use Rattle.model_values.specs.Limits.{product_limits}
use Rattle.model_values.specs.Throws.{bad_argument, no_method, no_property_to_set, outside}
use Rattle.model_values.specs.declared.cell.Cell.{Cell}
use Rattle.model_values.specs.declared.value.Value.{Value}
use Rattle.value_operators.specs.Targets.{place_seen}
use Rattle.value_operators.specs.declared.index.Place.{Place}
use Rattle.value_operators.specs.declared.index.Place.TheVariants.{At, Past, Below}
use Rattle.value_view.specs.Seen.{seen}
use Rattle.value_view.specs.declared.kind.Kind.{Kind}
use Rattle.value_view.specs.declared.kind.Kind.TheVariants.{Null, Flag, Number, Text, List as Items, Map as Pairs, Closure, Thrown}

at_no_entry : (h : List Cell) (c : ℕ) (vs : List Value) (i : ℤ) (v : Value) (p : Place) → ((j : ℕ) → p ≡ At j → ⊥) → set_list_at product_limits h c vs i v (place_seen p) ≡ outside product_limits h i (length vs)
at_no_entry h c vs i v (At j) none = absurd (none j refl)
at_no_entry h c vs i v Past none = refl
at_no_entry h c vs i v Below none = refl

-- an index that points at no entry of a list
pub set_outside : (h : List Cell) (a b v : Value) (c : ℕ) (vs : List Value) (i : ℤ) (p : Place) → kind h a ≡ items c vs → kind h b ≡ number i → place_seen p ≡ place_of i (length vs) → ((j : ℕ) → p ≡ At j → ⊥) → set_at product_limits h a b v ≡ outside product_limits h i (length vs)
set_outside h a b v c vs i p on index place none =
    ap₂ (λ x y. set_kind_at product_limits h x y v) on index
    ∙ ap (λ (q : model.Place). set_list_at product_limits h c vs i v q) (sym place)
    ∙ at_no_entry h c vs i v p none

-- an index of a list that is no number
pub set_no_number : (h : List Cell) (c : ℕ) (vs : List Value) (v : Value) (k : Kind) → ((x : ℤ) → k ≡ Number x → ⊥) → set_kind_at product_limits h (items c vs) (seen k) v ≡ bad_argument product_limits h
set_no_number h c vs v Null none = refl
set_no_number h c vs v (Flag b) none = refl
set_no_number h c vs v (Number x) none = absurd (none x refl)
set_no_number h c vs v (Text t) none = refl
set_no_number h c vs v (Items d ws) none = refl
set_no_number h c vs v (Pairs d es) none = refl
set_no_number h c vs v (Closure d) none = refl
set_no_number h c vs v (Thrown d class m) none = refl

-- an index of what is no list and no map
pub set_no_collection : (h : List Cell) (b v : Value) (k : Kind) → ((x : _) (x' : _) → k ≡ Items x x' → ⊥) → ((x : _) (x' : _) → k ≡ Pairs x x' → ⊥) → set_kind_at product_limits h (seen k) (kind h b) v ≡ no_method product_limits h (seen k) (codes "putAt")
set_no_collection h b v Null no_list no_map = refl
set_no_collection h b v (Flag f) no_list no_map = refl
set_no_collection h b v (Number x) no_list no_map = refl
set_no_collection h b v (Text t) no_list no_map = refl
set_no_collection h b v (Items d ws) no_list no_map = absurd (no_list d ws refl)
set_no_collection h b v (Pairs d es) no_list no_map = absurd (no_map d es refl)
set_no_collection h b v (Closure d) no_list no_map = refl
set_no_collection h b v (Thrown d class m) no_list no_map = refl

-- a property of what is no map
pub set_no_map : (h : List Cell) (p : List ℕ) (v : Value) (k : Kind) → ((x : _) (x' : _) → k ≡ Pairs x x' → ⊥) → set_kind_property product_limits h (seen k) p v ≡ no_property_to_set product_limits h (seen k) p
set_no_map h p v Null no_map = refl
set_no_map h p v (Flag f) no_map = refl
set_no_map h p v (Number x) no_map = refl
set_no_map h p v (Text t) no_map = refl
set_no_map h p v (Items d ws) no_map = refl
set_no_map h p v (Pairs d es) no_map = absurd (no_map d es refl)
set_no_map h p v (Closure d) no_map = refl
set_no_map h p v (Thrown d class m) no_map = refl
