-- How written cells are spelled (this product's own; docs/FORMATS.md, "Records of changes").
use Rattle.std.specs.Prelude.{◌≡◌, ℕ, List, Option, refl, ◌⊎◌}
use Rattle.std.proofs.Common.{inl, inr}
use Rattle.field_form.specs.Forms.{Choice, Form, Lawful, last, ◌or◌, kinds, of_parts, pair, u32_form, bytes_form, many, optional}
use Rattle.field_form.specs.FieldLaws.{u32_lawful, bytes_lawful}
use Rattle.field_form.specs.FormLaws.{last_lawful, or_lawful, kinds_lawful, of_parts_lawful, pair_lawful, many_lawful, optional_lawful}
use Rattle.field_form.specs.Values.{value_form, value_lawful, env_form, env_lawful}
use Rattle.field_form.specs.Cells.{class_form, class_lawful, entries_form, entries_lawful}
use Rattle.model_values.specs.declared.value.Value.{Value}
use Rattle.model_values.specs.declared.key.Key.{Key}
use Rattle.model_values.specs.declared.cell.Binding.{Binding}
use Rattle.model_values.specs.declared.cell.Cell.TheVariants as cell
use Rattle.model_values.specs.declared.throwable.Class.{Class}
use Rattle.delta_form.specs.declared.delta.WrittenCell.{WrittenCell}
use Rattle.delta_form.specs.declared.delta.WrittenCell.TheVariants as written

-- A written cell: `00` to `05`, the whole cell, spelled as any cell is; `06`, a list that has grown, and the values behind
-- those that it had; `07`, a map that has grown, and the entries behind those that it had, no key twice.
abbrev pub WrittenCellParts : Type 0
WrittenCellParts = Value ⊎ (List ℕ ⊎ (List Value ⊎ (List (Key × Value) ⊎ ((ℕ × List Binding) ⊎ ((Class × Option (List ℕ)) ⊎ (List Value ⊎ List (Key × Value)))))))

abbrev pub written_cell_of : WrittenCellParts → WrittenCell
written_cell_of (inl v) = written.Whole (cell.Variable v)
written_cell_of (inr (inl t)) = written.Whole (cell.Text t)
written_cell_of (inr (inr (inl vs))) = written.Whole (cell.List vs)
written_cell_of (inr (inr (inr (inl es)))) = written.Whole (cell.Map es)
written_cell_of (inr (inr (inr (inr (inl c))))) = written.Whole (cell.Closure c.0 c.1)
written_cell_of (inr (inr (inr (inr (inr (inl t)))))) = written.Whole (cell.Thrown t.0 t.1)
written_cell_of (inr (inr (inr (inr (inr (inr (inl vs))))))) = written.GrownList vs
written_cell_of (inr (inr (inr (inr (inr (inr (inr es))))))) = written.GrownMap es

abbrev pub written_cell_parts : WrittenCell → WrittenCellParts
written_cell_parts (written.Whole (cell.Variable v)) = inl v
written_cell_parts (written.Whole (cell.Text t)) = inr (inl t)
written_cell_parts (written.Whole (cell.List vs)) = inr (inr (inl vs))
written_cell_parts (written.Whole (cell.Map es)) = inr (inr (inr (inl es)))
written_cell_parts (written.Whole (cell.Closure node env)) = inr (inr (inr (inr (inl (node, env)))))
written_cell_parts (written.Whole (cell.Thrown class message)) = inr (inr (inr (inr (inr (inl (class, message))))))
written_cell_parts (written.GrownList vs) = inr (inr (inr (inr (inr (inr (inl vs))))))
written_cell_parts (written.GrownMap es) = inr (inr (inr (inr (inr (inr (inr es))))))

abbrev pub written_cell_kinds : Choice WrittenCellParts
written_cell_kinds =
    value_form or bytes_form or many value_form or entries_form or pair u32_form env_form or pair class_form (optional bytes_form)
    or many value_form or last entries_form

abbrev pub written_cell_form : Form WrittenCell
written_cell_form = of_parts written_cell_of written_cell_parts (kinds written_cell_kinds)

written_cell_there : (x : WrittenCellParts) → written_cell_parts (written_cell_of x) ≡ x
written_cell_there (inl v) = refl
written_cell_there (inr (inl t)) = refl
written_cell_there (inr (inr (inl vs))) = refl
written_cell_there (inr (inr (inr (inl es)))) = refl
written_cell_there (inr (inr (inr (inr (inl c))))) = refl
written_cell_there (inr (inr (inr (inr (inr (inl t)))))) = refl
written_cell_there (inr (inr (inr (inr (inr (inr (inl vs))))))) = refl
written_cell_there (inr (inr (inr (inr (inr (inr (inr es))))))) = refl

written_cell_back : (w : WrittenCell) → written_cell_of (written_cell_parts w) ≡ w
written_cell_back (written.Whole (cell.Variable v)) = refl
written_cell_back (written.Whole (cell.Text t)) = refl
written_cell_back (written.Whole (cell.List vs)) = refl
written_cell_back (written.Whole (cell.Map es)) = refl
written_cell_back (written.Whole (cell.Closure node env)) = refl
written_cell_back (written.Whole (cell.Thrown class message)) = refl
written_cell_back (written.GrownList vs) = refl
written_cell_back (written.GrownMap es) = refl

pub written_cell_lawful : Lawful written_cell_form
written_cell_lawful = of_parts_lawful written_cell_of written_cell_parts _ written_cell_there written_cell_back (kinds_lawful _
    (or_lawful _ _ value_lawful (or_lawful _ _ bytes_lawful (or_lawful _ _ (many_lawful _ value_lawful) (or_lawful _ _ entries_lawful
    (or_lawful _ _ (pair_lawful _ _ u32_lawful env_lawful) (or_lawful _ _ (pair_lawful _ _ class_lawful (optional_lawful _ bytes_lawful))
    (or_lawful _ _ (many_lawful _ value_lawful) (last_lawful _ entries_lawful)))))))))
