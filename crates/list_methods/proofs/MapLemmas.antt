-- What is no key, and a map after an entry was taken out.
use Rattle.std.proofs.Common.{◌≡◌, ℕ, true, List, Option, Some, None, get_or, set, slice_get, slice_set, refl, sym, ap, ◌∙◌}
use Rattle.std.specs.Map.{lookup, remove_entry}
use Rattle.std.specs.Prelude.{IfNone, OnSome}
use Rattle.std.proofs.lemmas.List.{set-get_or}
use Rattle.std.proofs.lemmas.Option.{get_or_from_slice_get}
use Rattle.cell_heap.proofs.EntryLemmas.{remove_absent}
use Rattle.cell_heap.specs.Contents.{pairs_in}
use Rattle.cell_heap.specs.Region.{Region}
use Rattle.model_values.specs.Cells.{Answer}
use Rattle.model_values.specs.Fitting.{HasMap}
use Rattle.model_values.specs.Index.{key_of}
use Rattle.model_values.specs.Keys.{same_key}
use Rattle.model_values.specs.Kinds.{Kind}
use Rattle.model_values.specs.Limits.{product_limits}
use Rattle.model_values.specs.ListMethods.{with_key}
use Rattle.model_values.specs.Throws.{bad_key}
use Rattle.cell_heap.specs.ValueTypes.{Value, Key, Cell, MapCell}

is_map : (o : Option Cell) → HasMap o → o ≡ Some (MapCell (pairs_in o))
is_map (Some (MapCell es)) has = refl
is_map o has = absurd has

without_key : (h : List Cell) (id : ℕ) (k : Key) → HasMap (slice_get h id) → lookup (same_key k) (pairs_in (slice_get h id)) ≡ None → slice_set h id (MapCell (remove_entry (same_key k) (pairs_in (slice_get h id)))) ≡ h
without_key h id k has none =
    let es = pairs_in (slice_get h id) in
    let same : get_or h id (MapCell es) ≡ MapCell es = get_or_from_slice_get h id (MapCell es) (MapCell es) (is_map (slice_get h id) has) in
    ap (λ (c : Cell). set h id c) (ap MapCell (remove_absent k es none) ∙ sym same) ∙ set-get_or h id (MapCell es)

pub removed_is : (old new : Region) (id : ℕ) (k : Key) (r : Option Value) → HasMap (slice_get old.cells id) → r ≡ lookup (same_key k) (pairs_in (slice_get old.cells id)) → OnSome r (new ≡ record old { cells = slice_set old.cells id (MapCell (remove_entry (same_key k) (pairs_in (slice_get old.cells id)))); changed = slice_set old.changed id true }) → IfNone r (new ≡ old) → new.cells ≡ slice_set old.cells id (MapCell (remove_entry (same_key k) (pairs_in (slice_get old.cells id))))
removed_is old new id k None has value some none = ap (λ (s : Region). s.cells) none ∙ sym (without_key old.cells id k has (sym value))
removed_is old new id k (Some v) has value some none = ap (λ (s : Region). s.cells) some

pub with_some : (h : List Cell) (on : Kind) (k : Key) (go : Key → Answer) → key_of on ≡ Some k → with_key product_limits h on go ≡ go k
with_some h on k go is = ap (λ (o : Option Key). elim o as (λ o. Answer) [ Some key ↦ go key | None ↦ bad_key product_limits h ]) is
