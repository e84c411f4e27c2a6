use Rattle.std.proofs.Common.{◌≡◌, Some, sym, ap, ap₂, ◌∙◌}
use Rattle.cell_heap.specs.ValueTypes.{Cell, Value}
use Rattle.model_values.specs.Cells.{Gives}
use Rattle.model_values.specs.Index.{key_of}
use Rattle.model_values.specs.Kinds.{kind}
use Rattle.list_methods.proofs.MapLemmas.{removed_is, with_some}
use Rattle.std.specs.Prelude.{List}
use Rattle.list_methods.proofs.maps.remove.Goals as goal

pub returns-in-Some-clause-answer : goal.returns-in-Some-clause-answer
returns-in-Some-clause-answer c =
    let key : key_of (kind c.args.heap.now.cells c.args.key.now) ≡ Some c.in-Some.key = sym (ap key_of c.kind_of.ensures.kind) ∙ sym c.in_ok-key.ensures ∙ c.in-Some.is in
    let cells = removed_is c.args.heap.now c.map_remove.new.self c.args.map c.in-Some.key c.map_remove.result c.requires.map c.map_remove.ensures.value c.map_remove.ensures.removed c.map_remove.ensures.absent in
    with_some c.args.heap.now.cells (kind c.args.heap.now.cells c.args.key.now) c.in-Some.key _ key
    ∙ ap₂ (λ (cs : List Cell) (v : Value). Gives cs v) (sym cells) (sym c.value_or_null-old.ensures.value)
