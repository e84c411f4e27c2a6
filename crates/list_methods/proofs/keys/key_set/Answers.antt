use Rattle.std.proofs.Common.{length, slice_get, refl, ap, ◌∙◌, arith}
use Rattle.cell_heap.specs.Contents.{pairs_in}
use Rattle.model_values.specs.ListMethods.{key_values}
use Rattle.list_methods.proofs.KeyLemmas.{keys_below, keys_no_cells, keys_too_many}
use Rattle.list_methods.proofs.keys.key_set.Goals as goal

pub returns-then-len-gt-MAX_ENTRIES-clause-answer : goal.returns-then-len-gt-MAX_ENTRIES-clause-answer
returns-then-len-gt-MAX_ENTRIES-clause-answer c =
    let es = pairs_in (slice_get c.args.heap.now.cells c.args.map) in
    (keys_too_many c.args.heap.now.cells es (omega (arith, c.if-len-gt-MAX_ENTRIES.true, c.len.ensures.len, ap length c.map_in-entries.ensures.entries)), refl)

pub returns-then-len-ge-MAX_CELLS-clause-answer : goal.returns-then-len-ge-MAX_CELLS-clause-answer
returns-then-len-ge-MAX_CELLS-clause-answer c =
    let es = pairs_in (slice_get c.args.heap.now.cells c.args.map) in
    (keys_no_cells c.args.heap.now.cells es (omega (arith, c.if-len-gt-MAX_ENTRIES.false, c.len.ensures.len, ap length c.map_in-entries.ensures.entries)) (omega (arith, c.if-len-ge-MAX_CELLS.true, c.len-2.ensures.len)), refl)

pub perform-requires : goal.perform-requires
perform-requires c =
    keys_below (length c.args.heap.now.cells) c.map_in-entries.result.now c.in_ok-texts.texts c.in_ok-texts.values c.in_ok-texts.ensures.texts
    (c.in_ok-texts.ensures.values ∙ ap (λ n. key_values n c.map_in-entries.result.now) c.len-3.ensures.len)
