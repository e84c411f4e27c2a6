use Rattle.std.proofs.Common.{length, slice_get, slice_set, sym, ap, ◌∙◌}
use Rattle.std.proofs.lemmas.Result.{err_from_is_err_and}
use Rattle.indexmap.specs.IndexMap.{insert_entry}
use Rattle.cell_heap.specs.Contents.{pairs_in}
use Rattle.cell_heap.specs.Refusals.{map_put_limit}
use Rattle.cell_heap.specs.Region.{Region}
use Rattle.model_values.specs.Cells.{Gives, map_put, unless_limit}
use Rattle.model_values.specs.Limits.{product_limits}
use Rattle.value_view.specs.Refusals.{refusal_of}
use Rattle.std.proofs.Common.{Err}
use Rattle.model_values.specs.Keys.{same_key}
use Rattle.model_values.specs.declared.cell.Cell.TheVariants.{Map as MapCell}
use Rattle.value_ops.proofs.AnswerLemmas.{admitted, answers_as, answers_refused, leaves_refused, map_put-by_limit}
use Rattle.cell_heap.proofs.SoundLemmas.{ValueBelow-more}
use Rattle.value_ops.proofs.effect.put.Goals as goal

pub returns-in_err-map_put : goal.returns-in_err-map_put
returns-in_err-map_put c =
    let p = err_from_is_err_and c.from_residual.result c.from_residual.ensures.1 in
    let r = c.in_err-map_put.field-0.0 in
    let h = c.args.heap.now.cells in
    let es = pairs_in (slice_get h c.args.map) in
    let go = Gives (slice_set h c.args.map (MapCell (insert_entry same_key es c.args.key c.args.value))) c.args.gives in
    let refused = answers_refused (map_put_limit h es c.args.key) go r c.args.heap.now c.map_put.new.self c.in_err-map_put.ensures.refusal c.in_err-map_put.ensures.unchanged in
    record {
      answer = rw (p.1, p.2) (answers_as (unless_limit (map_put_limit h es c.args.key) go) (map_put product_limits h c.args.map es c.args.key c.args.value c.args.gives) c.args.heap.now c.map_put.new.self (Err (refusal_of r)) (map_put-by_limit h c.args.map es c.args.key c.args.value c.args.gives) refused);
      leaves = rw (p.1, p.2) (leaves_refused r c.args.heap.now c.map_put.new.self c.in_err-map_put.ensures.unchanged);
    }

pub returns : goal.returns
returns c =
    let h = c.args.heap.now.cells in
    let es = pairs_in (slice_get h c.args.map) in
    let go = Gives (slice_set h c.args.map (MapCell (insert_entry same_key es c.args.key c.args.value))) c.args.gives in
    record {
      answer = map_put-by_limit h c.args.map es c.args.key c.args.value c.args.gives ∙ admitted (map_put_limit h es c.args.key) go c.in_ok-map_put.ensures.refusal ∙ sym (ap (λ (s : Region). Gives s.cells c.args.gives) c.in_ok-map_put.ensures.put);
      leaves = record { follows = c.in_ok-map_put.ensures.follows; below = ValueBelow-more (length h) (length c.map_put.new.self.cells) c.args.gives c.in_ok-map_put.ensures.follows.grows c.requires.given };
    }
