use Rattle.std.proofs.Common.{◌++◌, ℕ, List, length, refl, sym, ap, ◌∙◌, arith}
use Rattle.std.proofs.lemmas.List.{length_push, take_all}
use Rattle.std.proofs.lemmas.Iterator.Consumers.{YieldsList-turn, YieldsList-end}
use Rattle.std.proofs.lemmas.Iterator.Adapters.{YieldsList-from_vec}
use Rattle.model_values.specs.TextMethods.{text_cells}
use Rattle.model_values.specs.declared.cell.Cell.TheVariants.{Text as TextCell}
use Rattle.cell_heap.specs.Refusals.{new_cell_limit}
use Rattle.cell_heap.specs.Region.{Region}
use Rattle.cell_heap.proofs.FollowsLemmas.{Follows-trans}
use Rattle.value_ops.proofs.CellLemmas.{made_more, refused_for_memory, text_fits}
use Rattle.value_ops.proofs.cells.push_texts.Goals as goal

pub returns-in_err-new_cell : goal.returns-in_err-new_cell
returns-in_err-new_cell c =
    let long = c.into_iter-text-iterator.ensures.into_iter_gives.1 ∙ c.into_vec-text-items.result.ok.0 ∙ ap length c.into_vec-text-items.ensures in
    let turn = YieldsList-turn (YieldsList-from_vec {s = c.into_iter-text-iterator.result} c.args.texts (c.into_iter-text-iterator.ensures.into_iter_gives.0 ∙ c.into_vec-text-items.ensures) long) c.loop-text.yielded c.loop-text.text-iterator c.loop-text.yielded_by c.next.result c.next.new.self c.in-Some.text c.in-Some.is c.next.ensures.steps in
    let cells = c.loop-text.heap.cells in
    let fits = text_fits c.args.heap.now.cells cells c.args.texts (length c.loop-text.yielded) c.in-Some.text c.loop-text.invariant.cells turn.0 c.requires.few c.requires.small in
    let none = ap (λ (t : List ℕ). new_cell_limit cells (TextCell t)) turn.1 ∙ fits in
    let want = refused_for_memory c.in_err-new_cell.field-0.0 (sym c.in_err-new_cell.ensures.refusal ∙ none) in
    absurd (omega (arith, c.loop-text.invariant.spare, c.requires.room, turn.0, c.in_err-new_cell.ensures.room want))

pub loop-text-preserved : goal.loop-text-preserved
loop-text-preserved c =
    let long = c.into_iter-text-iterator.ensures.into_iter_gives.1 ∙ c.into_vec-text-items.result.ok.0 ∙ ap length c.into_vec-text-items.ensures in
    let turn = YieldsList-turn (YieldsList-from_vec {s = c.into_iter-text-iterator.result} c.args.texts (c.into_iter-text-iterator.ensures.into_iter_gives.0 ∙ c.into_vec-text-items.ensures) long) c.loop-text.yielded c.loop-text.text-iterator c.loop-text.yielded_by c.next.result c.next.new.self c.in-Some.text c.in-Some.is c.next.ensures.steps in
    let next = length_push c.loop-text.yielded c.in-Some.text in
    record {
      cells = made_more c.args.heap.now.cells c.loop-text.heap.cells c.new_cell.new.self.cells c.args.texts (length c.loop-text.yielded) _ c.in-Some.text next turn.0 turn.1 c.loop-text.invariant.cells (ap (λ (s : Region). s.cells) c.in_ok-new_cell.ensures.cells);
      spare = omega (arith, next, turn.0, c.requires.room, c.loop-text.invariant.spare, ap (λ (s : Region). s.spare) c.in_ok-new_cell.ensures.cells);
      follows = Follows-trans c.args.heap.now c.loop-text.heap c.new_cell.new.self c.loop-text.invariant.follows c.in_ok-new_cell.ensures.follows;
    }

pub returns : goal.returns
returns c =
    let long = c.into_iter-text-iterator.ensures.into_iter_gives.1 ∙ c.into_vec-text-items.result.ok.0 ∙ ap length c.into_vec-text-items.ensures in
    let t = YieldsList-end (YieldsList-from_vec {s = c.into_iter-text-iterator.result} c.args.texts (c.into_iter-text-iterator.ensures.into_iter_gives.0 ∙ c.into_vec-text-items.ensures) long) c.loop-text.yielded c.loop-text.text-iterator c.loop-text.yielded_by c.next.result c.next.new.self c.in-None.is c.next.ensures.steps in
    record {
      made = refl;
      cells = c.loop-text.invariant.cells ∙ ap (λ (ts : List (List ℕ)). c.args.heap.now.cells ++ text_cells ts) (take_all (length c.loop-text.yielded) c.args.texts (omega (arith, t.1)));
      spare = omega (arith, t.1, c.loop-text.invariant.spare);
      follows = c.loop-text.invariant.follows;
    }
