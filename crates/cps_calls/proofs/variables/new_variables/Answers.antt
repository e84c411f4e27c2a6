use Rattle.std.proofs.Common.{◌++◌, ◌∙◌, map, refl, sym, ap}
use Rattle.model_values.specs.Cells.{Gives, unless_limit}
use Rattle.model_values.specs.declared.cell.Cell.TheVariants.{Variable}
use Rattle.model_values.specs.declared.value.Value.TheVariants.{Null}
use Rattle.cps_calls.proofs.VariableLemmas.{room_for}
use Rattle.cps_calls.proofs.variables.new_variables.Goals as goal

pub returns-clause-done : goal.returns-clause-done
returns-clause-done c = λ t.
    let h = c.args.shared.now.heap.cells in
    let free = room_for h c.args.values.now c.in_ok-check_room.ensures.few c.in_ok-check_room.ensures.small in
    record {
      answers = ap (λ o. unless_limit o (Gives (h ++ map Variable c.args.values.now) Null)) free ∙ ap (λ g. Gives g Null) (sym c.in_ok-push_variables.ensures.cells);
      world = refl;
      stack = refl;
      beside = record { parent = refl; heap = c.in_ok-push_variables.ensures.follows };
    }
