use Rattle.std.proofs.Common.{get_or, arith, add-one}
use Rattle.std.proofs.lemmas.Option.{slice_get-get_or}
use Rattle.image_changes.proofs.Needed.{cell_differs}
use Rattle.image_changes.proofs.Marked.{marked_end, marked_noted, marked_within}
use Rattle.image_changes.proofs.lists.changed_among.Goals as goal

pub get-requires : goal.get-requires
get-requires c = marked_within c.args.now.now c.args.marked.now c.loop-id.id-index 0 c.requires.marked c.requires.each c.loop-id-test.true

pub loop-id-preserved : goal.loop-id-preserved
loop-id-preserved c =
    let ids = c.args.marked.now in
    let k = c.loop-id.id-index in
    let id = get_or ids k 0 in
    rw add-one (record {
      reach = marked_noted c.args.before.now c.args.now.now.cells ids k id c.get.result.now c.loop-id.changed c.note_cell.new.changed (slice_get-get_or ids k 0 c.loop-id-test.true) c.get.ensures.cell c.in_ok-note_cell.ensures c.loop-id.invariant.reach;
      differ = cell_differs c.args.before.now id c.get.result.now c.loop-id.changed c.note_cell.new.changed c.in_ok-note_cell.ensures c.loop-id.invariant.differ;
    })

pub returns-clause-puts : goal.returns-clause-puts
returns-clause-puts c = marked_end c.args.before.now c.args.now.now c.args.marked.now c.loop-id.id-index c.loop-id.changed c.requires.keeps c.requires.marked c.requires.each (omega arith) c.loop-id.invariant.reach
