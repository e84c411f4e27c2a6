use Rattle.std.proofs.Common.{◌≡◌, ℕ, List, Option, slice_get, refl, sym, ap, subst, ◌∙◌}
use Rattle.cell_heap.specs.Contents.{pairs_in, values_in}
use Rattle.cell_heap.specs.ValueTypes.{Key, Value}
use Rattle.list_methods.proofs.CallLemmas.{call_by, list_by_kind, map_by_kind}
use Rattle.method_names.specs.Names.{seen}
use Rattle.model_values.specs.Cells.{Answer}
use Rattle.model_values.specs.Kinds.{items, kind, pairs}
use Rattle.text_methods.specs.Calls.{CallAnswers}
use Rattle.list_methods.proofs.calls.call.Goals as goal

pub returns-in-List-clause-answer : goal.returns-in-List-clause-answer
returns-in-List-clause-answer c =
    let h = c.args.heap.now.cells in
    let list = c.in-List.list in
    let there = list_by_kind h c.args.on.now list c.in-List.field-1.now (sym c.in-List.ensures.kind) in
    let on : kind h c.args.on.now ≡ items list (values_in (slice_get h list)) = sym c.in-List.ensures.kind ∙ ap (λ (vs : List Value). items list vs) (sym there.1) in
    subst (λ (o : Option (Answer × ℕ)). CallAnswers o c.args.heap.now c.of_list.new.heap c.args.count.now c.of_list.new.count c.of_list.result)
    (sym (call_by h c.args.on.now c.args.name.now c.args.args.now c.args.count.now (seen c.in-Some.method) (items list (values_in (slice_get h list))) (sym c.in-Some.ensures) on refl))
    c.of_list.ensures.answer

pub returns-in-Map-clause-answer : goal.returns-in-Map-clause-answer
returns-in-Map-clause-answer c =
    let h = c.args.heap.now.cells in
    let map = c.in-Map.map in
    let there = map_by_kind h c.args.on.now map c.in-Map.field-1.now (sym c.in-Map.ensures.kind) in
    let on : kind h c.args.on.now ≡ pairs map (pairs_in (slice_get h map)) = sym c.in-Map.ensures.kind ∙ ap (λ (es : List (Key × Value)). pairs map es) (sym there.1) in
    subst (λ (o : Option (Answer × ℕ)). CallAnswers o c.args.heap.now c.of_map.new.heap c.args.count.now c.of_map.new.count c.of_map.result)
    (sym (call_by h c.args.on.now c.args.name.now c.args.args.now c.args.count.now (seen c.in-Some.method) (pairs map (pairs_in (slice_get h map))) (sym c.in-Some.ensures) on refl))
    c.of_map.ensures.answer
