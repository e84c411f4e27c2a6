-- A written cell that is put at its number, and entries that are put behind those of a map.
use Rattle.std.proofs.Common.{◌≡◌, ◌∙◌, ◌<◌, ℕ, zero, suc, Bool, true, false, List, [], ◌∷◌, ◌++◌, length, drop, slice_get, Option, Some, None, refl, sym, ap, subst, arith}
use Rattle.std.specs.Prelude.{if◌then◌else◌, nat_eq, slice_set}
use Rattle.std.proofs.lemmas.Bool.{eqb-false, eqb-true, le-ltb, lt-ltb}
use Rattle.std.proofs.lemmas.Option.{slice_get_past}
use Rattle.std.specs.Map.{lookup}
use Rattle.std.specs.Option.{is_none}
use Rattle.model_values.specs.Keys.{same_key}
use Rattle.model_values.specs.declared.cell.Cell.{Cell}
use Rattle.model_values.specs.declared.key.Key.{Key}
use Rattle.model_values.specs.declared.value.Value.{Value}
use Rattle.delta_form.specs.Applying.{◌>>=◌, Refuses, in_turn}
use Rattle.delta_form.specs.After.{put_at, put_cell, put_entry, written_cell}
use Rattle.delta_form.specs.declared.delta.NumberedCell.{NumberedCell}
use Rattle.delta_form.specs.declared.delta.WrittenCell.{WrittenCell}
use Rattle.delta_form.specs.declared.delta.WrittenCell.TheVariants as written
use Rattle.delta_form.specs.declared.refusal.DeltaRefusal.{DeltaRefusal}
use Rattle.delta_form.proofs.Answering.{refuses_on}

module _ (c : NumberedCell) (cells : List Cell) where
  -- what stood there, and what is there now
  put_now : (stood : Option Cell) → slice_get cells c.number ≡ stood → put_cell c cells ≡ (written_cell c.cell stood >>= λ cell. put_at c.number cell cells)
  put_now stood is = ap (λ (o : Option Cell). written_cell c.cell o >>= λ cell. put_at c.number cell cells) is

  pub put_refused : (e : DeltaRefusal) (stood : Option Cell) → slice_get cells c.number ≡ stood → Refuses e (written_cell c.cell stood) → Refuses e (put_cell c cells)
  put_refused e stood is none = rw (put_now stood is) (refuses_on e (λ cell. put_at c.number cell cells) (written_cell c.cell stood) none)

  pub put_inside : (stood now : Cell) → c.number < length cells → slice_get cells c.number ≡ Some stood → written_cell c.cell (Some stood) ≡ Some now → put_cell c cells ≡ Some (slice_set cells c.number now)
  put_inside stood now lt is makes =
      put_now (Some stood) is ∙ ap (λ (o : Option Cell). o >>= λ cell. put_at c.number cell cells) makes
      ∙ ap (λ (b : Bool). if b then Some (slice_set cells c.number now) else if nat_eq c.number (length cells) then Some (cells ++ now ∷ []) else None) (lt-ltb c.number (length cells) lt)

  pub put_behind : (now : Cell) → c.number ≡ length cells → written_cell c.cell None ≡ Some now → put_cell c cells ≡ Some (cells ++ now ∷ [])
  put_behind now is makes =
      put_now None (slice_get_past cells c.number (omega (arith, is))) ∙ ap (λ (o : Option Cell). o >>= λ cell. put_at c.number cell cells) makes
      ∙ ap (λ (b : Bool). if b then Some (slice_set cells c.number now) else if nat_eq c.number (length cells) then Some (cells ++ now ∷ []) else None) (le-ltb c.number (length cells) (omega (arith, is)))
      ∙ next (nat_eq c.number (length cells)) refl
    where
      next : (b : Bool) → nat_eq c.number (length cells) ≡ b → (if b then Some (cells ++ now ∷ []) else None) ≡ Some (cells ++ now ∷ [])
      next true e = refl
      next false e = absurd (eqb-false c.number (length cells) e is)

  pub put_past : length cells < c.number → put_cell c cells ≡ None
  put_past lt = put_now None (slice_get_past cells c.number (omega (arith, lt))) ∙ go c.cell
    where
      beyond : (now : Cell) → put_at c.number now cells ≡ None
      beyond now =
          ap (λ (b : Bool). if b then Some (slice_set cells c.number now) else if nat_eq c.number (length cells) then Some (cells ++ now ∷ []) else None) (le-ltb c.number (length cells) (omega (arith, lt)))
          ∙ next (nat_eq c.number (length cells)) refl
        where
          next : (b : Bool) → nat_eq c.number (length cells) ≡ b → (if b then Some (cells ++ now ∷ []) else None) ≡ None
          next true e = let same = eqb-true c.number (length cells) e in absurd (omega (arith, lt, same))
          next false e = refl

      go : (w : WrittenCell) → (written_cell w None >>= λ cell. put_at c.number cell cells) ≡ None
      go (written.Whole now) = beyond now
      go (written.GrownList values) = refl
      go (written.GrownMap entries) = refl

-- the item at a place, and those behind it
pub item_at : {X : Type 0} (xs : List X) (k : ℕ) → k < length xs → (x : X) × (slice_get xs k ≡ Some x) × (drop k xs ≡ x ∷ drop (suc k) xs)
item_at [] k lt = absurd (omega (arith, lt))
item_at (x ∷ xs) zero lt = (x, refl, refl)
item_at (x ∷ xs) (suc k) lt = item_at xs k (omega (arith, lt))

-- an entry of a new key stands behind all others
pub entry_put : (had all : List (Key × Value)) (entry : Key × Value) (k : Key) (v : Value) → entry ≡ (k, v) → lookup (same_key k) had ≡ None → all ≡ had ++ (k, v) ∷ [] → put_entry entry had ≡ Some all
entry_put had all entry k v is none put =
    ap (λ (e : Key × Value). put_entry e had) is
    ∙ ap (λ (o : Option Value). if is_none o then Some (had ++ (k, v) ∷ []) else None) none
    ∙ ap (λ (l : List (Key × Value)). Some l) (sym put)

-- one entry more was put behind those of a map, or was refused
module _ (es map all : List (Key × Value)) (place : ℕ) (lt : place < length es) (so_far : in_turn put_entry (drop place es) all ≡ in_turn put_entry es map) where
  next_entry : (x : Key × Value) × (slice_get es place ≡ Some x) × (drop place es ≡ x ∷ drop (suc place) es)
  next_entry = item_at es place lt

  pub entries_go_on : (next : List (Key × Value)) → ((x : Key × Value) → slice_get es place ≡ Some x → put_entry x all ≡ Some next) → in_turn put_entry (drop (suc place) es) next ≡ in_turn put_entry es map
  entries_go_on next put =
      ap (λ (o : Option (List (Key × Value))). o >>= in_turn put_entry (drop (suc place) es)) (sym (put next_entry.0 next_entry.1))
      ∙ ap (λ (l : List (Key × Value)). in_turn put_entry l all) (sym next_entry.2) ∙ so_far

  pub entries_refused : (e : DeltaRefusal) → ((x : Key × Value) → slice_get es place ≡ Some x → Refuses e (put_entry x all)) → Refuses e (in_turn put_entry es map)
  entries_refused e refused =
      subst (Refuses e) (ap (λ (l : List (Key × Value)). in_turn put_entry l all) (sym next_entry.2) ∙ so_far)
      (refuses_on e (in_turn put_entry (drop (suc place) es)) (put_entry next_entry.0 all) (refused next_entry.0 next_entry.1))
