-- Arguments that are there.
use Rattle.std.proofs.Common.{◌≡◌, ℕ, Bool, true, false, List, [], ◌∷◌, Option, Some, subst}
use Rattle.std.specs.Prelude.{if◌then◌else◌, IfSome, map, slice_get, None, IfOk, Result as Outcome, Ok, Err}
use Rattle.std.specs.List.{All}
use Rattle.std.proofs.lemmas.List.Elements.{All-head, All-tail, All-map}
use Rattle.cell_heap.specs.Soundness.{ValueBelow}
use Rattle.model_values.specs.declared.key.Key.{Key}
use Rattle.model_values.specs.Fitting.{HasClosure, IsIn}
use Rattle.model_values.specs.Kinds.{cell_kind, kind}
use Rattle.model_values.specs.declared.cell.Cell.{Cell}
use Rattle.model_values.specs.declared.cell.Cell.TheVariants.{Variable, Text as TextCell, List as ListCell, Map as MapCell, Closure as ClosureCell, Thrown as ThrownCell}
use Rattle.model_values.specs.declared.value.Value.{Value}
use Rattle.model_values.specs.declared.value.Value.TheVariants.{Null, Bool as Truth, Int as Whole, Cell as InCell}
use Rattle.model_values.specs.TextOf.{key_text}
use Rattle.model_run.specs.Names.{same_text}
use Rattle.model_run.specs.StepTable.{Given, given, is_closure}

abbrev Below : ℕ → List ℕ × Value → Type 0
Below n g = ValueBelow n g.1

here : (n : ℕ) (v : Value) (g : List ℕ × Value) (more : Option Value) (same : Bool) → ValueBelow n g.1 → (Some v ≡ more → ValueBelow n v) → Some v ≡ (if same then Some g.1 else more) → ValueBelow n v
here n v g more true first rest e = let h : g.1 ≡ v = cc e in subst (ValueBelow n) h first
here n v g more false first rest e = rest e

pub given_below : (n : ℕ) (name : List ℕ) (args : Given) (v : Value) → All (Below n) args → Some v ≡ given name args → ValueBelow n v
given_below n name [] v all is = absurd (cc is)
given_below n name (g ∷ gs) v all is = here n v g (given name gs) (same_text name g.0) (All-head (Below n) g gs all) (given_below n name gs v (All-tail (Below n) g gs all)) is

pub entries_below : (n : ℕ) (es : List (Key × Value)) → All (λ e. ValueBelow n e.1) es → All (Below n) (map (λ e. (key_text e.0, e.1)) es)
entries_below n es all = All-map (Below n) (λ (e : Key × Value). (key_text e.0, e.1)) es all

pub if_ok : {T E : Type 0} (P Q : T → Type 0) (r : Outcome T E) → ((x : T) → P x → Q x) → IfOk r P → IfOk r Q
if_ok P Q (Ok x) h p = h x p
if_ok P Q (Err e) h p = tt

in_cell : (c : ℕ) (o : Option Cell) → true ≡ is_closure (cell_kind c o) → HasClosure o
in_cell c None is = absurd (cc is)
in_cell c (Some (Variable v)) is = absurd (cc is)
in_cell c (Some (TextCell t)) is = absurd (cc is)
in_cell c (Some (ListCell vs)) is = absurd (cc is)
in_cell c (Some (MapCell es)) is = absurd (cc is)
in_cell c (Some (ClosureCell k env)) is = tt
in_cell c (Some (ThrownCell d m)) is = absurd (cc is)

pub closure_kind : (h : List Cell) (v : Value) → true ≡ is_closure (kind h v) → IsIn HasClosure h v
closure_kind h (InCell c) is = in_cell c (slice_get h c) is
closure_kind h Null is = absurd (cc is)
closure_kind h (Truth b) is = absurd (cc is)
closure_kind h (Whole z) is = absurd (cc is)

pub given_some : (n : ℕ) (name : List ℕ) (args : Given) (o : Option Value) → All (Below n) args → o ≡ given name args → IfSome o (ValueBelow n)
given_some n name args None all is = tt
given_some n name args (Some v) all is = given_below n name args v all is
