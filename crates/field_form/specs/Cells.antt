-- How cells are spelled.
use Rattle.std.specs.Prelude.{◌≡◌, ◌^◌, ◌<◌, ℕ, List, [], ◌∷◌, ◌++◌, length, Option, Some, refl, ◌⊎◌, slice_get, slice_index_or}
use Rattle.std.specs.List.{AllByRecursion}
use Rattle.std.proofs.Common.{inl, inr, arith}
use Rattle.field_form.specs.Forms.{Form, Lawful, last, ◌or◌, kinds, of_parts, that_needs, pair, Written, u32_form, bytes_form, AllBehind, list_of, many, admitted, numbered, optional}
use Rattle.field_form.specs.FieldLaws.{u32_lawful, bytes_lawful}
use Rattle.field_form.specs.FormLaws.{last_lawful, or_lawful, kinds_lawful, of_parts_lawful, that_needs_lawful, pair_lawful, list_lawful, many_lawful, admitted_lawful, optional_lawful}
use Rattle.field_form.specs.Numbered.{few_lawful}
use Rattle.field_form.specs.Rules.{is_new}
use Rattle.field_form.specs.Values.{value_form, value_lawful, key_form, key_lawful, env_form, env_lawful}
use Rattle.model_values.specs.declared.value.Value.{Value}
use Rattle.model_values.specs.declared.key.Key.{Key}
use Rattle.model_values.specs.declared.cell.Binding.{Binding}
use Rattle.model_values.specs.declared.cell.Cell.{Cell}
use Rattle.model_values.specs.declared.cell.Cell.TheVariants as cell
use Rattle.model_values.specs.declared.throwable.Class.{Class}
use Rattle.model_values.specs.declared.throwable.Class.TheVariants.{Abort, FlowInterrupted, Arithmetic, MissingProperty, MissingMethod, NullPointer, IllegalArgument, IndexOutOfBounds, NumberFormat, NoSuchElement, MissingContextVariable, Exception, RuntimeException, NoSuchMethodError, Error}

-- The classes in the order of the throwables.
abbrev pub classes : List Class
classes = Abort ∷ FlowInterrupted ∷ Arithmetic ∷ MissingProperty ∷ MissingMethod ∷ NullPointer ∷ IllegalArgument ∷ IndexOutOfBounds ∷ NumberFormat ∷ NoSuchElement ∷ MissingContextVariable ∷ Exception ∷ RuntimeException ∷ NoSuchMethodError ∷ Error ∷ []

abbrev pub class_number : Class → ℕ
class_number Abort = 0
class_number FlowInterrupted = 1
class_number Arithmetic = 2
class_number MissingProperty = 3
class_number MissingMethod = 4
class_number NullPointer = 5
class_number IllegalArgument = 6
class_number IndexOutOfBounds = 7
class_number NumberFormat = 8
class_number NoSuchElement = 9
class_number MissingContextVariable = 10
class_number Exception = 11
class_number RuntimeException = 12
class_number NoSuchMethodError = 13
class_number Error = 14

class_found : (c : Class) → slice_get classes (class_number c) ≡ Some c
class_found = elim [ Abort ↦ refl | FlowInterrupted ↦ refl | Arithmetic ↦ refl | MissingProperty ↦ refl | MissingMethod ↦ refl | NullPointer ↦ refl | IllegalArgument ↦ refl | IndexOutOfBounds ↦ refl | NumberFormat ↦ refl | NoSuchElement ↦ refl | MissingContextVariable ↦ refl | Exception ↦ refl | RuntimeException ↦ refl | NoSuchMethodError ↦ refl | Error ↦ refl ]

abbrev pub class_form : Form Class
class_form = numbered class_number classes

pub class_lawful : Lawful class_form
class_lawful = few_lawful class_number classes class_found refl (omega arith)

-- Entries: key and value, no key twice. A map of the program has no key twice.
abbrev pub entry_form : Form (Key × Value)
entry_form = pair key_form value_form

abbrev pub entry_behind : List (Key × Value) → Form (Key × Value)
entry_behind before = pair (admitted (is_new before) key_form) value_form

abbrev pub NeedsEntries : List (Key × Value) → Type 0
NeedsEntries entries = (length entries < 2 ^ 32) × AllByRecursion entry_form.Needs entries

abbrev pub entries_form : Form (List (Key × Value))
entries_form = that_needs NeedsEntries (list_of entry_behind)

entries_needed : (before entries : List (Key × Value)) → AllBehind (λ b e. (entry_behind b).Fits e) before entries → AllByRecursion entry_form.Needs entries
entries_needed before [] fits = tt
entries_needed before (e ∷ es) fits = ((key_lawful.needed e.0 fits.0.0.1, value_lawful.needed e.1 fits.0.1), entries_needed (before ++ e ∷ []) es fits.1)

pub entries_lawful : Lawful entries_form
entries_lawful = that_needs_lawful NeedsEntries _ (list_lawful entry_behind (λ before. pair_lawful _ _ (admitted_lawful (is_new before) _ key_lawful) value_lawful))
    (λ entries fits. (fits.0, entries_needed [] entries fits.1))

-- the entry at this place was written
abbrev pub WrittenAt : ℕ → List (Key × Value) → List ℕ → List ℕ → Type 0
WrittenAt place entries old new = (d : Key × Value) → Written entry_form (slice_index_or entries place d) old new

-- Cell: `00` variable, `01` text, `02` list, `03` map, `04` closure (node u32, environment), `05` thrown (class u8, option of message).
abbrev pub CellParts : Type 0
CellParts = Value ⊎ (List ℕ ⊎ (List Value ⊎ (List (Key × Value) ⊎ ((ℕ × List Binding) ⊎ (Class × Option (List ℕ))))))

abbrev pub cell_of : CellParts → Cell
cell_of (inl v) = cell.Variable v
cell_of (inr (inl t)) = cell.Text t
cell_of (inr (inr (inl vs))) = cell.List vs
cell_of (inr (inr (inr (inl es)))) = cell.Map es
cell_of (inr (inr (inr (inr (inl c))))) = cell.Closure c.0 c.1
cell_of (inr (inr (inr (inr (inr t))))) = cell.Thrown t.0 t.1

abbrev pub cell_parts : Cell → CellParts
cell_parts (cell.Variable v) = inl v
cell_parts (cell.Text t) = inr (inl t)
cell_parts (cell.List vs) = inr (inr (inl vs))
cell_parts (cell.Map es) = inr (inr (inr (inl es)))
cell_parts (cell.Closure node env) = inr (inr (inr (inr (inl (node, env)))))
cell_parts (cell.Thrown class message) = inr (inr (inr (inr (inr (class, message)))))

abbrev pub cell_form : Form Cell
cell_form = of_parts cell_of cell_parts (kinds (value_form or bytes_form or many value_form or entries_form or pair u32_form env_form or last (pair class_form (optional bytes_form))))

cell_there : (x : CellParts) → cell_parts (cell_of x) ≡ x
cell_there (inl v) = refl
cell_there (inr (inl t)) = refl
cell_there (inr (inr (inl vs))) = refl
cell_there (inr (inr (inr (inl es)))) = refl
cell_there (inr (inr (inr (inr (inl c))))) = refl
cell_there (inr (inr (inr (inr (inr t))))) = refl

cell_back : (c : Cell) → cell_of (cell_parts c) ≡ c
cell_back (cell.Variable v) = refl
cell_back (cell.Text t) = refl
cell_back (cell.List vs) = refl
cell_back (cell.Map es) = refl
cell_back (cell.Closure node env) = refl
cell_back (cell.Thrown class message) = refl

pub cell_lawful : Lawful cell_form
cell_lawful = of_parts_lawful cell_of cell_parts _ cell_there cell_back (kinds_lawful _
    (or_lawful _ _ value_lawful (or_lawful _ _ bytes_lawful (or_lawful _ _ (many_lawful _ value_lawful) (or_lawful _ _ entries_lawful
    (or_lawful _ _ (pair_lawful _ _ u32_lawful env_lawful) (last_lawful _ (pair_lawful _ _ class_lawful (optional_lawful _ bytes_lawful)))))))))
