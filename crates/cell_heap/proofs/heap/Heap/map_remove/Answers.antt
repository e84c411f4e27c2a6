use Rattle.std.proofs.Common.{◌≡◌, ◌-◌, ◌<◌, List, Option, Some, length, get_or, slice_get, ap, sym, ◌∙◌, subst, arith}
use Rattle.std.specs.Map.{lookup, remove_entry}
use Rattle.model_values.specs.Cells.{cell_bytes}
use Rattle.model_values.specs.Keys.{same_key}
use Rattle.model_values.specs.Fitting.{HasMap}
use Rattle.cell_heap.specs.Contents.{pairs_in}
use Rattle.cell_heap.specs.Soundness.{AreSound, IsSoundIn}
use Rattle.cell_heap.specs.ValueTypes.{Cell, Key, Value, MapCell}
use Rattle.cell_heap.proofs.KeptLemmas.{IsKept-set, same_cells, same_length, seen_at, written, written-follows}
use Rattle.cell_heap.proofs.SizeLemmas.{cell_bytes-le}
use Rattle.cell_heap.proofs.PlaceLemmas.{no_text}
use Rattle.cell_heap.proofs.SoundLemmas.{bytes-remove_pair, known_at, sound-remove, sound_seen}
use Rattle.cell_heap.proofs.heap.Heap.map_remove.Goals as goal

pub overflow_sub-self : goal.overflow_sub-self
overflow_sub-self c =
    let h = c.self.inside in
    let r = c.args.self.now in
    let view = c.self.view_is in
    let kept = c.self.invariant in
    let was = c.index_mut.result.now in
    let got = seen_at h r view c.args.id was c.requires.within c.index_mut.ensures.value in
    let read = seen_at h r view c.args.id c.index.result.now c.requires.within c.index.ensures in
    let pairs : c.pairs_of.result.now ≡ pairs_in (Some was) = c.pairs_of.ensures ∙ ap pairs_in (sym read ∙ got) in
    let map = known_at HasMap r.cells c.args.id was got c.requires.map in
    let k = c.args.key.now in
    let had : lookup (same_key k) (pairs_in (Some was)) ≡ Some c.in_ok-old.old = ap (λ (es : List (Key × Value)). lookup (same_key k) es) (sym pairs) ∙ sym c.in_ok-old.ensures in
    let less = bytes-remove_pair was k c.in_ok-old.old map had in
    let at : cell_bytes was ≡ cell_bytes (get_or h.cells.items c.args.id was) = ap cell_bytes c.index_mut.ensures.value in
    let within : c.args.id < length h.cells.items = omega (arith, c.requires.within, same_length h r view) in
    let most = cell_bytes-le h.cells.items c.args.id was within in
    omega (arith, less, at, most, kept.counted, c.pair_bytes.ensures)

pub invariant_of-self : goal.invariant_of-self
invariant_of-self c =
    let h = c.self.inside in
    let r = c.args.self.now in
    let view = c.self.view_is in
    let kept = c.self.invariant in
    let was = c.index_mut.result.now in
    let got = seen_at h r view c.args.id was c.requires.within c.index_mut.ensures.value in
    let read = seen_at h r view c.args.id c.index.result.now c.requires.within c.index.ensures in
    let pairs : c.pairs_of.result.now ≡ pairs_in (Some was) = c.pairs_of.ensures ∙ ap pairs_in (sym read ∙ got) in
    let map = known_at HasMap r.cells c.args.id was got c.requires.map in
    let k = c.args.key.now in
    let had : lookup (same_key k) (pairs_in (Some was)) ≡ Some c.in_ok-old.old = ap (λ (es : List (Key × Value)). lookup (same_key k) es) (sym pairs) ∙ sym c.in_ok-old.ensures in
    let less = bytes-remove_pair was k c.in_ok-old.old map had in
    let at : cell_bytes was ≡ cell_bytes (get_or h.cells.items c.args.id was) = ap cell_bytes c.index_mut.ensures.value in
    let within : c.args.id < length h.cells.items = omega (arith, c.requires.within, same_length h r view) in
    let most = cell_bytes-le h.cells.items c.args.id was within in
    let all : AreSound r.cells = subst AreSound (same_cells h r view) kept.sound in
    let sound = sound-remove (length r.cells) was k map (sound_seen r.cells c.args.id was all got) in
    let new : cell_bytes c.remove.new.cell ≡ cell_bytes (MapCell (remove_entry (same_key k) (pairs_in (Some was)))) = ap cell_bytes c.remove.ensures in
    IsKept-set h r view c.args.id was c.remove.new.cell c.set.new.self (h.total - c.pair_bytes.result) kept c.requires.within (no_text HasMap (λ s is. is) _ c.requires.map) c.index_mut.ensures.value
    (subst (λ (d : Cell). IsSoundIn (length r.cells) d) (sym c.remove.ensures) sound) c.set.ensures
    (omega (arith, less, at, most, new, kept.counted, kept.bounded, c.pair_bytes.ensures)) (omega (arith, kept.bounded))

pub returns-clause-value : goal.returns-clause-value
returns-clause-value c =
    let h = c.self.inside in
    let r = c.args.self.now in
    let read = seen_at h r c.self.view_is c.args.id c.index.result.now c.requires.within c.index.ensures in
    let entries : c.pairs_of.result.now ≡ pairs_in (slice_get r.cells c.args.id) = c.pairs_of.ensures ∙ ap pairs_in (sym read) in
    c.in_ok-old.ensures ∙ ap (λ (es : List (Key × Value)). lookup (same_key c.args.key.now) es) entries

pub returns-clause-removed : goal.returns-clause-removed
returns-clause-removed c =
    let h = c.self.inside in
    let r = c.args.self.now in
    let view = c.self.view_is in
    let kept = c.self.invariant in
    let was = c.index_mut.result.now in
    let got = seen_at h r view c.args.id was c.requires.within c.index_mut.ensures.value in
    written h r view c.args.id c.remove.new.cell (MapCell (remove_entry (same_key c.args.key.now) (pairs_in (slice_get r.cells c.args.id)))) c.set.new.self (h.total - c.pair_bytes.result) c.set.ensures
    (c.remove.ensures ∙ ap (λ (o : Option Cell). MapCell (remove_entry (same_key c.args.key.now) (pairs_in o))) (sym got))

pub returns-clause-follows : goal.returns-clause-follows
returns-clause-follows c =
    written-follows c.self.inside c.args.self.now c.self.view_is c.args.id c.remove.new.cell c.set.new.self (c.self.inside.total - c.pair_bytes.result) c.self.invariant c.set.ensures
