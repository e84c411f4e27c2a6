use Rattle.std.proofs.Common.{◌≡◌, ◌∙◌, ap, rules}
use Rattle.field_form.specs.Reading.{Read}
use Rattle.model_values.specs.declared.cell.Cell.{Cell}
use Rattle.delta_form.proofs.WholeCells.{as_whole, whole_read}
use Rattle.delta_form.proofs.cells.WrittenCellField.read.Goals as goal

pub returns-in_ok-cell-in_default : goal.returns-in_ok-cell-in_default
returns-in_ok-cell-in_default c =
    let no_list : ¬ (c.in_ok-kind.kind ≡ 6) = λ e. search rules in
    let no_map : ¬ (c.in_ok-kind.kind ≡ 7) = λ e. search rules in
    whole_read c.args.bytes.now c.args.at c.in_ok-kind.behind c.in_ok-kind.kind no_list no_map (search rules)
    ∙ ap (λ (r : Read Cell). as_whole r) c.in_ok-cell-in_default.ensures
