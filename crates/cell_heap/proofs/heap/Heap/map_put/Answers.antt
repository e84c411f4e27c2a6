use Rattle.std.proofs.Common.{◌≡◌, ℕ, ◌+◌, List, Option, Some, None, length, slice_get, ap, ap₂, sym, ◌∙◌, subst, arith}
use Rattle.std.specs.Map.{lookup}
use Rattle.indexmap.specs.IndexMap.{insert_entry}
use Rattle.model_values.specs.Cells.{cell_bytes, heap_bytes}
use Rattle.model_values.specs.Keys.{same_key}
use Rattle.model_values.specs.Fitting.{HasMap}
use Rattle.cell_heap.specs.Contents.{pairs_in}
use Rattle.cell_heap.specs.Refusals.{added_bytes, put_limit}
use Rattle.cell_heap.specs.Soundness.{AreSound, IsSoundIn}
use Rattle.cell_heap.specs.ValueTypes.{Cell, Key, Value, MapCell, LimitKind}
use Rattle.cell_heap.proofs.KeptLemmas.{IsKept-set, same_cells, seen_at, written, written-follows}
use Rattle.cell_heap.proofs.PlaceLemmas.{no_text}
use Rattle.cell_heap.proofs.SoundLemmas.{bytes-put, known_at, sound-put, sound_seen}
use Rattle.cell_heap.proofs.heap.Heap.map_put.Goals as goal

pub invariant_of-self-2 : goal.invariant_of-self-2
invariant_of-self-2 c =
    let h = c.self.inside in
    let r = c.args.self.now in
    let view = c.self.view_is in
    let kept = c.self.invariant in
    let was = c.index_mut.result.now in
    let got = seen_at h r view c.args.id was c.requires.within c.index_mut.ensures.value in
    let k = c.args.key in
    let read = seen_at h r view c.args.id c.index.result.now c.requires.within c.index.ensures in
    let pairs : c.pairs_of.result.now ≡ pairs_in (Some was) = c.pairs_of.ensures ∙ ap pairs_in (sym read ∙ got) in
    let map = known_at HasMap r.cells c.args.id was got c.requires.map in
    let all : AreSound r.cells = subst AreSound (same_cells h r view) kept.sound in
    let none = subst (λ (es : List (Key × Value)). put_limit h.total es k (lookup (same_key k) es) ≡ None) pairs c.in_ok-added.ensures.refusal in
    let added : c.in_ok-added.added ≡ added_bytes k (lookup (same_key k) (pairs_in (Some was))) = c.in_ok-added.ensures.added ∙ ap (λ (es : List (Key × Value)). added_bytes k (lookup (same_key k) es)) pairs in
    let sound = sound-put (length r.cells) was k c.args.value h.total map (sound_seen r.cells c.args.id was all got) c.requires.below none in
    let bytes : cell_bytes c.put.new.cell ≡ cell_bytes was + added_bytes k (lookup (same_key k) (pairs_in (Some was))) = ap cell_bytes c.in_ok-old.ensures.put ∙ bytes-put was k c.args.value map in
    IsKept-set h r view c.args.id was c.put.new.cell c.set.new.self (h.total + c.in_ok-added.added) kept c.requires.within (no_text HasMap (λ s is. is) _ c.requires.map) c.index_mut.ensures.value
    (subst (λ (d : Cell). IsSoundIn (length r.cells) d) (sym c.in_ok-old.ensures.put) sound) c.set.ensures (omega (arith, bytes, added)) c.in_ok-added.ensures.bounded

pub returns-clause-old : goal.returns-clause-old
returns-clause-old c =
    let h = c.self.inside in
    let r = c.args.self.now in
    let view = c.self.view_is in
    let kept = c.self.invariant in
    let was = c.index_mut.result.now in
    let got = seen_at h r view c.args.id was c.requires.within c.index_mut.ensures.value in
    c.in_ok-old.ensures.old ∙ ap (λ (o : Option Cell). lookup (same_key c.args.key) (pairs_in o)) (sym got)

pub returns-clause-put : goal.returns-clause-put
returns-clause-put c =
    let h = c.self.inside in
    let r = c.args.self.now in
    let view = c.self.view_is in
    let kept = c.self.invariant in
    let was = c.index_mut.result.now in
    let got = seen_at h r view c.args.id was c.requires.within c.index_mut.ensures.value in
    written h r view c.args.id c.put.new.cell (MapCell (insert_entry same_key (pairs_in (slice_get r.cells c.args.id)) c.args.key c.args.value)) c.set.new.self (h.total + c.in_ok-added.added) c.set.ensures
    (c.in_ok-old.ensures.put ∙ ap (λ (o : Option Cell). MapCell (insert_entry same_key (pairs_in o) c.args.key c.args.value)) (sym got))

pub returns-clause-refusal : goal.returns-clause-refusal
returns-clause-refusal c =
    let h = c.self.inside in
    let r = c.args.self.now in
    let k = c.args.key in
    let read = seen_at h r c.self.view_is c.args.id c.index.result.now c.requires.within c.index.ensures in
    let bytes : h.total ≡ heap_bytes r.cells = c.self.invariant.counted ∙ ap heap_bytes (same_cells h r c.self.view_is) in
    let entries : c.pairs_of.result.now ≡ pairs_in (slice_get r.cells c.args.id) = c.pairs_of.ensures ∙ ap pairs_in (sym read) in
    let limit : ℕ → List (Key × Value) → Option LimitKind = λ n es. put_limit n es k (lookup (same_key k) es) in
    sym (ap₂ limit bytes entries) ∙ c.in_ok-added.ensures.refusal

pub returns-clause-follows : goal.returns-clause-follows
returns-clause-follows c =
    written-follows c.self.inside c.args.self.now c.self.view_is c.args.id c.put.new.cell c.set.new.self (c.self.inside.total + c.in_ok-added.added) c.self.invariant c.set.ensures
