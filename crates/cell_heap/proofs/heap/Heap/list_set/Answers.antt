use Rattle.std.proofs.Common.{◌≡◌, Option, length, set, slice_get, ap, sym, ◌∙◌, subst, arith}
use Rattle.model_values.specs.Cells.{cell_bytes}
use Rattle.model_values.specs.Fitting.{HasList}
use Rattle.cell_heap.specs.Contents.{values_in}
use Rattle.cell_heap.specs.Soundness.{AreSound, IsSoundIn}
use Rattle.cell_heap.specs.ValueTypes.{Cell, ListCell}
use Rattle.cell_heap.proofs.KeptLemmas.{IsKept-set, same_cells, seen_at, written, written-follows}
use Rattle.cell_heap.proofs.PlaceLemmas.{no_text}
use Rattle.cell_heap.proofs.SoundLemmas.{bytes-list_set, known_at, sound-list_set, sound_seen}
use Rattle.cell_heap.proofs.heap.Heap.list_set.Goals as goal

pub invariant_of-self : goal.invariant_of-self
invariant_of-self c =
    let h = c.self.inside in
    let r = c.args.self.now in
    let view = c.self.view_is in
    let kept = c.self.invariant in
    let was = c.index_mut.result.now in
    let got = seen_at h r view c.args.id was c.requires.within c.index_mut.ensures.value in
    let list = known_at HasList r.cells c.args.id was got c.requires.list in
    let all : AreSound r.cells = subst AreSound (same_cells h r view) kept.sound in
    let sound = sound-list_set (length r.cells) was c.args.at c.args.value list (sound_seen r.cells c.args.id was all got) c.requires.below in
    let bytes : cell_bytes c.set.new.cell ≡ cell_bytes was = ap cell_bytes c.set.ensures ∙ bytes-list_set was c.args.at c.args.value list in
    IsKept-set h r view c.args.id was c.set.new.cell c.set-2.new.self h.total kept c.requires.within (no_text HasList (λ s is. is) _ c.requires.list) c.index_mut.ensures.value
    (subst (λ (d : Cell). IsSoundIn (length r.cells) d) (sym c.set.ensures) sound) c.set-2.ensures (omega (arith, bytes)) kept.bounded

pub returns-clause-set : goal.returns-clause-set
returns-clause-set c =
    let h = c.self.inside in
    let r = c.args.self.now in
    let view = c.self.view_is in
    let kept = c.self.invariant in
    let was = c.index_mut.result.now in
    let got = seen_at h r view c.args.id was c.requires.within c.index_mut.ensures.value in
    written h r view c.args.id c.set.new.cell (ListCell (set (values_in (slice_get r.cells c.args.id)) c.args.at c.args.value)) c.set-2.new.self h.total c.set-2.ensures
    (c.set.ensures ∙ ap (λ (o : Option Cell). ListCell (set (values_in o) c.args.at c.args.value)) (sym got))

pub returns-clause-follows : goal.returns-clause-follows
returns-clause-follows c =
    written-follows c.self.inside c.args.self.now c.self.view_is c.args.id c.set.new.cell c.set-2.new.self c.self.inside.total c.self.invariant c.set-2.ensures
