use Rattle.std.proofs.Common.{◌≡◌, ◌+◌, ◌∷◌, ◌++◌, [], ℕ, List, length, refl, sym, ap, ap₂, ◌∙◌, subst, append_assoc, length-append, arith}
use Rattle.std.proofs.lemmas.Result.{err_from_is_err_and}
use Rattle.model_values.specs.Cells.{Gives, heap_bytes, unless_limit}
use Rattle.model_values.specs.TextMethods.{text_cells}
use Rattle.model_values.specs.declared.cell.Cell.{Cell}
use Rattle.model_values.specs.declared.value.Value.TheVariants.{Cell as InCell}
use Rattle.cell_heap.specs.Region.{Region}
use Rattle.cell_heap.specs.Soundness.{CellBelow}
use Rattle.cell_heap.proofs.FollowsLemmas.{Follows-same, Follows-trans}
use Rattle.value_ops.proofs.CellLemmas.{Follows_room, all_fit, heap_bytes_append, length_text_cells, one_fits, refused_for_memory}
use Rattle.value_ops.proofs.cells.new_cells.Goals as goal

pub returns-in_err-check_room : goal.returns-in_err-check_room
returns-in_err-check_room c =
    let p = err_from_is_err_and c.from_residual.result c.from_residual.ensures.1 in
    let h = c.args.heap.now.cells in
    let met = c.in_err-check_room.ensures.limit c.args.last (sym c.requires.bytes) in
    record {
      answer = rw (p.1, p.2) (ap (λ o. unless_limit o (Gives (h ++ (text_cells c.args.texts ++ c.args.last ∷ [])) (InCell (length h + length c.args.texts)))) met, refl);
      leaves = rw (p.1, p.2) (record { follows = Follows-same c.args.heap.now c.args.heap.now refl; below = tt });
    }

-- the cells once the texts are made
texts_made : (old room made : Region) (ts : List (List ℕ)) (n : ℕ) → room ≡ record old { spare = n } → made.cells ≡ room.cells ++ text_cells ts → made.cells ≡ old.cells ++ text_cells ts
texts_made old room made ts n ok grown = grown ∙ ap (λ (s : Region). s.cells ++ text_cells ts) ok

size_made : (h cells : List Cell) (ts : List (List ℕ)) → cells ≡ h ++ text_cells ts → length cells ≡ length h + length ts
size_made h cells ts e = omega (arith, ap length e, length-append h (text_cells ts), length_text_cells ts)

bytes_made : (h cells : List Cell) (ts : List (List ℕ)) → cells ≡ h ++ text_cells ts → heap_bytes cells ≡ heap_bytes h + heap_bytes (text_cells ts)
bytes_made h cells ts e = ap heap_bytes e ∙ heap_bytes_append h (text_cells ts)

pub new_cell-requires : goal.new_cell-requires
new_cell-requires c =
    let grown = texts_made c.args.heap.now c.reserve.new.self c.push_texts.new.heap c.args.texts _ c.in_ok-reserve.ensures.ok c.in_ok-push_texts.ensures.cells in
    subst (λ (n : ℕ). CellBelow n c.args.last) (sym (size_made c.args.heap.now.cells c.push_texts.new.heap.cells c.args.texts grown)) c.requires.below

pub returns-in_err-new_cell : goal.returns-in_err-new_cell
returns-in_err-new_cell c =
    let h = c.args.heap.now.cells in
    let ts = c.args.texts in
    let grown = texts_made c.args.heap.now c.reserve.new.self c.push_texts.new.heap ts _ c.in_ok-reserve.ensures.ok c.in_ok-push_texts.ensures.cells in
    let size = size_made h c.push_texts.new.heap.cells ts grown in
    let bytes = bytes_made h c.push_texts.new.heap.cells ts grown in
    let fits = one_fits c.push_texts.new.heap.cells c.args.last c.requires.few (omega (arith, size, c.in_ok-check_room.ensures.few)) (omega (arith, bytes, c.requires.bytes, c.in_ok-check_room.ensures.small)) in
    let r = c.in_err-new_cell.field-0.0 in
    let want = refused_for_memory r (sym c.in_err-new_cell.ensures.refusal ∙ fits) in
    let spare = ap (λ (s : Region). s.spare) c.in_ok-reserve.ensures.ok in
    absurd (omega (arith, spare, c.in_ok-push_texts.ensures.spare, c.in_err-new_cell.ensures.room want))

pub returns : goal.returns
returns c =
    let h = c.args.heap.now.cells in
    let ts = c.args.texts in
    let grown = texts_made c.args.heap.now c.reserve.new.self c.push_texts.new.heap ts _ c.in_ok-reserve.ensures.ok c.in_ok-push_texts.ensures.cells in
    let size = size_made h c.push_texts.new.heap.cells ts grown in
    let last : c.new_cell.new.self.cells ≡ h ++ (text_cells ts ++ c.args.last ∷ []) =
    ap (λ (s : Region). s.cells) c.in_ok-new_cell.ensures.cells ∙ ap (λ (cs : List Cell). cs ++ c.args.last ∷ []) grown ∙ append_assoc h (text_cells ts) (c.args.last ∷ []) in
    let number : c.in_ok-new_cell.field-0 ≡ length h + length ts = c.in_ok-new_cell.ensures.made ∙ size in
    let none = all_fit h ts c.args.last (omega (arith, c.in_ok-check_room.ensures.few)) (omega (arith, c.requires.bytes, c.in_ok-check_room.ensures.small)) in
    record {
      answer = ap (λ o. unless_limit o (Gives (h ++ (text_cells ts ++ c.args.last ∷ [])) (InCell (length h + length ts)))) none ∙ sym (ap₂ (λ cs n. Gives cs (InCell n)) last number);
      leaves = record {
        follows = Follows-trans c.args.heap.now c.reserve.new.self c.new_cell.new.self (Follows_room c.args.heap.now c.reserve.new.self _ c.in_ok-reserve.ensures.ok)
            (Follows-trans c.reserve.new.self c.push_texts.new.heap c.new_cell.new.self c.in_ok-push_texts.ensures.follows c.in_ok-new_cell.ensures.follows);
        below = omega (arith, ap length (ap (λ (s : Region). s.cells) c.in_ok-new_cell.ensures.cells), length-append c.push_texts.new.heap.cells (c.args.last ∷ []), c.in_ok-new_cell.ensures.made);
      };
    }
