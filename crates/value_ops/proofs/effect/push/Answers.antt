use Rattle.std.proofs.Common.{◌∷◌, [], ◌++◌, true, slice_get, slice_set, sym, ap, ◌∙◌}
use Rattle.std.proofs.lemmas.Result.{err_from_is_err_and}
use Rattle.cell_heap.specs.Contents.{values_in}
use Rattle.cell_heap.specs.Refusals.{list_push_limit}
use Rattle.cell_heap.specs.Region.{Region}
use Rattle.model_values.specs.Cells.{Gives, list_push, unless_limit}
use Rattle.model_values.specs.Limits.{product_limits}
use Rattle.value_view.specs.Refusals.{refusal_of}
use Rattle.std.proofs.Common.{Err}
use Rattle.model_values.specs.declared.cell.Cell.TheVariants.{List as ListCell}
use Rattle.model_values.specs.declared.value.Value.TheVariants.{Bool as Truth}
use Rattle.value_ops.proofs.AnswerLemmas.{admitted, answers_as, answers_refused, leaves_refused, list_push-by_limit}
use Rattle.value_ops.proofs.effect.push.Goals as goal

pub returns-in_err-list_push : goal.returns-in_err-list_push
returns-in_err-list_push c =
    let p = err_from_is_err_and c.from_residual.result c.from_residual.ensures.1 in
    let r = c.in_err-list_push.field-0.0 in
    let h = c.args.heap.now.cells in
    let vs = values_in (slice_get h c.args.list) in
    let go = Gives (slice_set h c.args.list (ListCell (vs ++ c.args.value ∷ []))) (Truth true) in
    let refused = answers_refused (list_push_limit h vs) go r c.args.heap.now c.list_push.new.self c.in_err-list_push.ensures.refusal c.in_err-list_push.ensures.unchanged in
    record {
      answer = rw (p.1, p.2) (answers_as (unless_limit (list_push_limit h vs) go) (list_push product_limits h c.args.list vs c.args.value) c.args.heap.now c.list_push.new.self (Err (refusal_of r)) (list_push-by_limit h c.args.list vs c.args.value) refused);
      leaves = rw (p.1, p.2) (leaves_refused r c.args.heap.now c.list_push.new.self c.in_err-list_push.ensures.unchanged);
    }

pub returns : goal.returns
returns c =
    let h = c.args.heap.now.cells in
    let vs = values_in (slice_get h c.args.list) in
    let go = Gives (slice_set h c.args.list (ListCell (vs ++ c.args.value ∷ []))) (Truth true) in
    record {
      answer = list_push-by_limit h c.args.list vs c.args.value ∙ admitted (list_push_limit h vs) go c.in_ok-list_push.ensures.refusal ∙ sym (ap (λ (s : Region). Gives s.cells (Truth true)) c.in_ok-list_push.ensures.pushed);
      leaves = record { follows = c.in_ok-list_push.ensures.follows; below = tt };
    }
