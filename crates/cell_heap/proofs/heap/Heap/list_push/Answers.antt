use Rattle.std.proofs.Common.{◌≡◌, ◌+◌, ◌<◌, ◌++◌, ◌∷◌, [], Option, Some, length, slice_get, ap, sym, ◌∙◌, subst, arith}
use Rattle.model_values.specs.Cells.{cell_bytes, heap_bytes}
use Rattle.model_values.specs.Fitting.{HasList}
use Rattle.cell_heap.specs.Contents.{values_in}
use Rattle.cell_heap.specs.Soundness.{AreSound, IsSoundIn}
use Rattle.cell_heap.specs.ValueTypes.{Cell, ListCell}
use Rattle.cell_heap.proofs.KeptLemmas.{IsKept-set, same_cells, seen_at, written, written-follows}
use Rattle.cell_heap.proofs.RefusalLemmas.{one_more_limit-none}
use Rattle.cell_heap.proofs.PlaceLemmas.{no_text}
use Rattle.cell_heap.proofs.SoundLemmas.{bytes-list_push, known_at, sound-list_push, sound_seen}
use Rattle.cell_heap.proofs.heap.Heap.list_push.Goals as goal

pub invariant_of-self-2 : goal.invariant_of-self-2
invariant_of-self-2 c =
    let h = c.self.inside in
    let r = c.args.self.now in
    let view = c.self.view_is in
    let kept = c.self.invariant in
    let was = c.index_mut.result.now in
    let got = seen_at h r view c.args.id was c.requires.within c.index_mut.ensures.value in
    let read = seen_at h r view c.args.id c.index.result.now c.requires.within c.index.ensures in
    let list = known_at HasList r.cells c.args.id was got c.requires.list in
    let all : AreSound r.cells = subst AreSound (same_cells h r view) kept.sound in
    let same : length (values_in (Some was)) ≡ length (values_in (Some c.index.result.now)) = ap (λ (o : Option Cell). length (values_in o)) (sym got ∙ read) in
    let few : length (values_in (Some was)) < 65536 = omega (arith, same, c.len.ensures, ap length c.values_of.ensures, c.if-len-ge-MAX_ENTRIES.false) in
    let sound = sound-list_push (length r.cells) was c.args.value list (sound_seen r.cells c.args.id was all got) c.requires.below few in
    let bytes : cell_bytes c.push.new.cell ≡ cell_bytes was + 16 = ap cell_bytes c.in_ok-push.ensures.pushed ∙ bytes-list_push was c.args.value list in
    IsKept-set h r view c.args.id was c.push.new.cell c.set.new.self (h.total + 16) kept c.requires.within (no_text HasList (λ s is. is) _ c.requires.list) c.index_mut.ensures.value
    (subst (λ (d : Cell). IsSoundIn (length r.cells) d) (sym c.in_ok-push.ensures.pushed) sound) c.set.ensures (omega (arith, bytes)) (omega (arith, c.if-self-gt-MAX_BYTES.false))

pub returns-clause-pushed : goal.returns-clause-pushed
returns-clause-pushed c =
    let h = c.self.inside in
    let r = c.args.self.now in
    let view = c.self.view_is in
    let kept = c.self.invariant in
    let was = c.index_mut.result.now in
    let got = seen_at h r view c.args.id was c.requires.within c.index_mut.ensures.value in
    written h r view c.args.id c.push.new.cell (ListCell (values_in (slice_get r.cells c.args.id) ++ c.args.value ∷ [])) c.set.new.self (h.total + 16) c.set.ensures
    (c.in_ok-push.ensures.pushed ∙ ap (λ (o : Option Cell). ListCell (values_in o ++ c.args.value ∷ [])) (sym got))

pub returns-clause-refusal : goal.returns-clause-refusal
returns-clause-refusal c =
    let h = c.self.inside in
    let r = c.args.self.now in
    let read = seen_at h r c.self.view_is c.args.id c.index.result.now c.requires.within c.index.ensures in
    let count : length (values_in (slice_get r.cells c.args.id)) ≡ length (values_in (Some c.index.result.now)) = ap (λ (o : Option Cell). length (values_in o)) read in
    let bytes : heap_bytes h.cells.items ≡ heap_bytes r.cells = ap heap_bytes (same_cells h r c.self.view_is) in
    one_more_limit-none (heap_bytes r.cells) (length (values_in (slice_get r.cells c.args.id)) + 1) 16
    (omega (arith, count, c.len.ensures, ap length c.values_of.ensures, c.if-len-ge-MAX_ENTRIES.false))
    (omega (arith, bytes, c.self.invariant.counted, c.if-self-gt-MAX_BYTES.false))

pub returns-clause-follows : goal.returns-clause-follows
returns-clause-follows c =
    written-follows c.self.inside c.args.self.now c.self.view_is c.args.id c.push.new.cell c.set.new.self (c.self.inside.total + 16) c.self.invariant c.set.ensures
