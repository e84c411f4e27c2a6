-- A whole cell among written cells: it is spelled and read as any cell is.
use Rattle.std.proofs.Common.{◌≡◌, ◌∙◌, ℕ, zero, suc, List, ◌++◌, Option, Ok, Err, refl, sym, ap}
use Rattle.field_form.specs.Reading.{◌>>=◌, Read}
use Rattle.field_form.specs.Forms.{Written, bytes_form, many, optional, pair, u32_form, u8_form}
use Rattle.field_form.specs.Values.{env_form, value_form}
use Rattle.field_form.specs.Cells.{cell_form, class_form, entries_form}
use Rattle.model_values.specs.declared.value.Value.{Value}
use Rattle.model_values.specs.declared.key.Key.{Key}
use Rattle.model_values.specs.declared.cell.Binding.{Binding}
use Rattle.model_values.specs.declared.cell.Cell.{Cell}
use Rattle.model_values.specs.declared.cell.Cell.TheVariants as cell
use Rattle.model_values.specs.declared.throwable.Class.{Class}
use Rattle.delta_form.specs.WrittenCells.{written_cell_form}
use Rattle.delta_form.specs.declared.delta.WrittenCell.{WrittenCell}
use Rattle.delta_form.specs.declared.delta.WrittenCell.TheVariants as written

pub whole_needs : (c : Cell) → written_cell_form.Needs (written.Whole c) → cell_form.Needs c
whole_needs (cell.Variable v) needs = needs
whole_needs (cell.Text t) needs = needs
whole_needs (cell.List vs) needs = needs
whole_needs (cell.Map es) needs = needs
whole_needs (cell.Closure node env) needs = needs
whole_needs (cell.Thrown class message) needs = needs

pub whole_spelled : (c : Cell) → written_cell_form.spelling (written.Whole c) ≡ cell_form.spelling c
whole_spelled (cell.Variable v) = refl
whole_spelled (cell.Text t) = refl
whole_spelled (cell.List vs) = refl
whole_spelled (cell.Map es) = refl
whole_spelled (cell.Closure node env) = refl
whole_spelled (cell.Thrown class message) = refl

pub whole_fits : (c : Cell) → cell_form.Fits c → written_cell_form.Fits (written.Whole c)
whole_fits (cell.Variable v) fits = fits
whole_fits (cell.Text t) fits = fits
whole_fits (cell.List vs) fits = fits
whole_fits (cell.Map es) fits = fits
whole_fits (cell.Closure node env) fits = fits
whole_fits (cell.Thrown class message) fits = fits

pub whole_written : (c : Cell) (old new : List ℕ) → Written cell_form c old new → Written written_cell_form (written.Whole c) old new
whole_written c old new w = record { fits = whole_fits c w.fits; spelled = w.spelled ∙ ap (λ (l : List ℕ). old ++ l) (sym (whole_spelled c)) }

-- ---- reading

abbrev pub as_whole : Read Cell → Read WrittenCell
as_whole r = r >>= λ x. Ok (written.Whole x.0, x.1)

module _ (bytes : List ℕ) (at behind : ℕ) where
  abbrev IsWhole : ℕ → Type 0
  IsWhole kind = u8_form.reading bytes at ≡ Ok (kind, behind) → written_cell_form.reading bytes at ≡ as_whole (cell_form.reading bytes at)

  variable_read : IsWhole 0
  variable_read e = go (value_form.reading bytes behind) refl
    where
      go : (r : Read Value) → value_form.reading bytes behind ≡ r → written_cell_form.reading bytes at ≡ as_whole (cell_form.reading bytes at)
      go (Ok x) is = rw (e, is) refl
      go (Err a) is = rw (e, is) refl

  text_read : IsWhole 1
  text_read e = go (bytes_form.reading bytes behind) refl
    where
      go : (r : Read (List ℕ)) → bytes_form.reading bytes behind ≡ r → written_cell_form.reading bytes at ≡ as_whole (cell_form.reading bytes at)
      go (Ok x) is = rw (e, is) refl
      go (Err a) is = rw (e, is) refl

  list_read : IsWhole 2
  list_read e = go ((many value_form).reading bytes behind) refl
    where
      go : (r : Read (List Value)) → (many value_form).reading bytes behind ≡ r → written_cell_form.reading bytes at ≡ as_whole (cell_form.reading bytes at)
      go (Ok x) is = rw (e, is) refl
      go (Err a) is = rw (e, is) refl

  map_read : IsWhole 3
  map_read e = go (entries_form.reading bytes behind) refl
    where
      go : (r : Read (List (Key × Value))) → entries_form.reading bytes behind ≡ r → written_cell_form.reading bytes at ≡ as_whole (cell_form.reading bytes at)
      go (Ok x) is = rw (e, is) refl
      go (Err a) is = rw (e, is) refl

  closure_read : IsWhole 4
  closure_read e = go ((pair u32_form env_form).reading bytes behind) refl
    where
      go : (r : Read (ℕ × List Binding)) → (pair u32_form env_form).reading bytes behind ≡ r → written_cell_form.reading bytes at ≡ as_whole (cell_form.reading bytes at)
      go (Ok x) is = rw (e, is) refl
      go (Err a) is = rw (e, is) refl

  thrown_read : IsWhole 5
  thrown_read e = go ((pair class_form (optional bytes_form)).reading bytes behind) refl
    where
      go : (r : Read (Class × Option (List ℕ))) → (pair class_form (optional bytes_form)).reading bytes behind ≡ r → written_cell_form.reading bytes at ≡ as_whole (cell_form.reading bytes at)
      go (Ok x) is = rw (e, is) refl
      go (Err a) is = rw (e, is) refl

  -- any kind but those of what has grown: a kind that no cell has is a fault at its place in both forms
  pub whole_read : (kind : ℕ) → ¬ (kind ≡ 6) → ¬ (kind ≡ 7) → IsWhole kind
  whole_read zero list map = variable_read
  whole_read (suc zero) list map = text_read
  whole_read (suc (suc zero)) list map = list_read
  whole_read (suc (suc (suc zero))) list map = map_read
  whole_read (suc (suc (suc (suc zero)))) list map = closure_read
  whole_read (suc (suc (suc (suc (suc zero))))) list map = thrown_read
  whole_read (suc (suc (suc (suc (suc (suc zero)))))) list map = absurd (list refl)
  whole_read (suc (suc (suc (suc (suc (suc (suc zero))))))) list map = absurd (map refl)
  whole_read (suc (suc (suc (suc (suc (suc (suc (suc kind)))))))) list map = λ e. rw e refl
