-- Cells that name only cells that are there.
use Rattle.std.proofs.Common.{◌≡◌, ℕ, ◌+◌, ◌<◌, ◌≤◌, List, [], ◌∷◌, ◌++◌, length, set, Option, Some, None, slice_get, refl, sym, subst, arith}
use Rattle.std.specs.List.{All}
use Rattle.std.specs.Map.{lookup, remove_entry}
use Rattle.std.proofs.lemmas.List.{length-set, length_push}
use Rattle.std.proofs.lemmas.List.Elements.{All-set, All-push, All-weaker, All-get_or}
use Rattle.std.proofs.lemmas.Option.{slice_get_within, get_or_from_slice_get}
use Rattle.indexmap.specs.IndexMap.{insert_entry}
use Rattle.model_values.specs.Cells.{cell_bytes, key_bytes}
use Rattle.model_values.specs.Keys.{same_key}
use Rattle.model_values.specs.Fitting.{HasVariable, HasList, HasMap}
use Rattle.cell_heap.specs.Contents.{values_in, pairs_in}
use Rattle.cell_heap.specs.Refusals.{added_bytes, put_limit}
use Rattle.cell_heap.specs.Soundness.{ValueBelow, CellBelow, IsSoundIn, AreSound}
use Rattle.cell_heap.specs.ValueTypes.{Key, Value, Null, Truth, Whole, InCell, Cell, Variable, TextCell, ListCell, MapCell, ClosureCell, ThrownCell}
use Rattle.cell_heap.proofs.RefusalLemmas.{few-from_none}
use Rattle.cell_heap.proofs.EntryLemmas.{All-insert, All-remove, length-insert_new, length-insert_old, length-remove-le, bytes-insert_new, bytes-insert_old, bytes-remove}

pub ValueBelow-more : (m n : ℕ) (v : Value) → m ≤ n → ValueBelow m v → ValueBelow n v
ValueBelow-more m n Null le h = tt
ValueBelow-more m n (Truth b) le h = tt
ValueBelow-more m n (Whole x) le h = tt
ValueBelow-more m n (InCell c) le h = omega (arith, le, h)

pub CellBelow-more : (m n : ℕ) (c : Cell) → m ≤ n → CellBelow m c → CellBelow n c
CellBelow-more m n (Variable v) le h = ValueBelow-more m n v le h
CellBelow-more m n (TextCell t) le h = tt
CellBelow-more m n (ListCell vs) le h = All-weaker (ValueBelow m) (ValueBelow n) (λ v. ValueBelow-more m n v le) vs h
CellBelow-more m n (MapCell es) le h = All-weaker (λ e. ValueBelow m e.1) (λ e. ValueBelow n e.1) (λ e. ValueBelow-more m n e.1 le) es h
CellBelow-more m n (ClosureCell node env) le h = All-weaker (λ b. b.cell < m) (λ b. b.cell < n) (λ b p. omega (arith, p, le)) env h
CellBelow-more m n (ThrownCell class message) le h = tt

pub AreSound-set : (h : List Cell) (i : ℕ) (c : Cell) → AreSound h → IsSoundIn (length h) c → AreSound (set h i c)
AreSound-set h i c all new = subst (λ (n : ℕ). All (IsSoundIn n) (set h i c)) (sym (length-set h i c)) (All-set (IsSoundIn (length h)) h i c new all)

pub AreSound-push : (h : List Cell) (c : Cell) → AreSound h → IsSoundIn (length h) c → AreSound (h ++ c ∷ [])
AreSound-push h c all new =
    let more : (d : Cell) → IsSoundIn (length h) d → IsSoundIn (length h + 1) d
    = λ d s. record { below = CellBelow-more (length h) (length h + 1) d (omega arith) s.below; small = s.small } in
    subst (λ (n : ℕ). All (IsSoundIn n) (h ++ c ∷ [])) (sym (length_push h c))
    (All-push (IsSoundIn (length h + 1)) h c (All-weaker (IsSoundIn (length h)) (IsSoundIn (length h + 1)) more h all) (more c new))

-- what is known of the cell at a place, for the cell that is read there
pub known_at : (P : Option Cell → Type 0) (h : List Cell) (i : ℕ) (c : Cell) → slice_get h i ≡ Some c → P (slice_get h i) → P (Some c)
known_at P h i c got p = subst P got p

-- a cell that is read is sound
pub sound_seen : (h : List Cell) (i : ℕ) (c : Cell) → AreSound h → slice_get h i ≡ Some c → IsSoundIn (length h) c
sound_seen h i c all got =
    let within = slice_get_within h i c got in
    subst (λ (d : Cell). IsSoundIn (length h) d) (get_or_from_slice_get h i c c got) (All-get_or (IsSoundIn (length h)) h i c within all)

-- a list, its sound new cell and that cell's bytes, after a value was put in a place
pub sound-list_set : (n : ℕ) (old : Cell) (at : ℕ) (v : Value) → HasList (Some old) → IsSoundIn n old → ValueBelow n v → IsSoundIn n (ListCell (set (values_in (Some old)) at v))
sound-list_set n (ListCell vs) at v is s p = record { below = All-set (ValueBelow n) vs at v p s.below; small = omega (arith, s.small, length-set vs at v) }
sound-list_set n (Variable w) at v is s p = absurd is
sound-list_set n (TextCell t) at v is s p = absurd is
sound-list_set n (MapCell es) at v is s p = absurd is
sound-list_set n (ClosureCell node env) at v is s p = absurd is
sound-list_set n (ThrownCell class m) at v is s p = absurd is

pub bytes-list_set : (old : Cell) (at : ℕ) (v : Value) → HasList (Some old) → cell_bytes (ListCell (set (values_in (Some old)) at v)) ≡ cell_bytes old
bytes-list_set (ListCell vs) at v is = omega (arith, length-set vs at v)
bytes-list_set (Variable w) at v is = absurd is
bytes-list_set (TextCell t) at v is = absurd is
bytes-list_set (MapCell es) at v is = absurd is
bytes-list_set (ClosureCell node env) at v is = absurd is
bytes-list_set (ThrownCell class m) at v is = absurd is

-- after one was put behind
pub sound-list_push : (n : ℕ) (old : Cell) (v : Value) → HasList (Some old) → IsSoundIn n old → ValueBelow n v → length (values_in (Some old)) < 65536 → IsSoundIn n (ListCell (values_in (Some old) ++ v ∷ []))
sound-list_push n (ListCell vs) v is s p few = record { below = All-push (ValueBelow n) vs v s.below p; small = omega (arith, few, length_push vs v) }
sound-list_push n (Variable w) v is s p few = absurd is
sound-list_push n (TextCell t) v is s p few = absurd is
sound-list_push n (MapCell es) v is s p few = absurd is
sound-list_push n (ClosureCell node env) v is s p few = absurd is
sound-list_push n (ThrownCell class m) v is s p few = absurd is

pub bytes-list_push : (old : Cell) (v : Value) → HasList (Some old) → cell_bytes (ListCell (values_in (Some old) ++ v ∷ [])) ≡ cell_bytes old + 16
bytes-list_push (ListCell vs) v is = omega (arith, length_push vs v)
bytes-list_push (Variable w) v is = absurd is
bytes-list_push (TextCell t) v is = absurd is
bytes-list_push (MapCell es) v is = absurd is
bytes-list_push (ClosureCell node env) v is = absurd is
bytes-list_push (ThrownCell class m) v is = absurd is

-- a map after a key that it had got a value
sound-put_old : (n : ℕ) (old : Cell) (k : Key) (v was : Value) → HasMap (Some old) → IsSoundIn n old → ValueBelow n v → lookup (same_key k) (pairs_in (Some old)) ≡ Some was → IsSoundIn n (MapCell (insert_entry same_key (pairs_in (Some old)) k v))
sound-put_old n (MapCell es) k v was is s p had = record { below = All-insert k v (ValueBelow n) es p s.below; small = omega (arith, s.small, length-insert_old k v es was had) }
sound-put_old n (Variable w) k v was is s p had = absurd is
sound-put_old n (TextCell t) k v was is s p had = absurd is
sound-put_old n (ListCell vs) k v was is s p had = absurd is
sound-put_old n (ClosureCell node env) k v was is s p had = absurd is
sound-put_old n (ThrownCell class m) k v was is s p had = absurd is

bytes-put_old : (old : Cell) (k : Key) (v was : Value) → HasMap (Some old) → lookup (same_key k) (pairs_in (Some old)) ≡ Some was → cell_bytes (MapCell (insert_entry same_key (pairs_in (Some old)) k v)) ≡ cell_bytes old
bytes-put_old (MapCell es) k v was is had = omega (arith, bytes-insert_old k v es was had)
bytes-put_old (Variable w) k v was is had = absurd is
bytes-put_old (TextCell t) k v was is had = absurd is
bytes-put_old (ListCell vs) k v was is had = absurd is
bytes-put_old (ClosureCell node env) k v was is had = absurd is
bytes-put_old (ThrownCell class m) k v was is had = absurd is

-- after a new key got one
sound-put_new : (n : ℕ) (old : Cell) (k : Key) (v : Value) → HasMap (Some old) → IsSoundIn n old → ValueBelow n v → lookup (same_key k) (pairs_in (Some old)) ≡ None → length (pairs_in (Some old)) < 65536 → IsSoundIn n (MapCell (insert_entry same_key (pairs_in (Some old)) k v))
sound-put_new n (MapCell es) k v is s p had few = record { below = All-insert k v (ValueBelow n) es p s.below; small = omega (arith, few, length-insert_new k v es had) }
sound-put_new n (Variable w) k v is s p had few = absurd is
sound-put_new n (TextCell t) k v is s p had few = absurd is
sound-put_new n (ListCell vs) k v is s p had few = absurd is
sound-put_new n (ClosureCell node env) k v is s p had few = absurd is
sound-put_new n (ThrownCell class m) k v is s p had few = absurd is

bytes-put_new : (old : Cell) (k : Key) (v : Value) → HasMap (Some old) → lookup (same_key k) (pairs_in (Some old)) ≡ None → cell_bytes (MapCell (insert_entry same_key (pairs_in (Some old)) k v)) ≡ cell_bytes old + (32 + key_bytes k)
bytes-put_new (MapCell es) k v is had = omega (arith, bytes-insert_new k v es had)
bytes-put_new (Variable w) k v is had = absurd is
bytes-put_new (TextCell t) k v is had = absurd is
bytes-put_new (ListCell vs) k v is had = absurd is
bytes-put_new (ClosureCell node env) k v is had = absurd is
bytes-put_new (ThrownCell class m) k v is had = absurd is

-- after an entry was taken out
pub sound-remove : (n : ℕ) (old : Cell) (k : Key) → HasMap (Some old) → IsSoundIn n old → IsSoundIn n (MapCell (remove_entry (same_key k) (pairs_in (Some old))))
sound-remove n (MapCell es) k is s = record { below = All-remove k (λ e. ValueBelow n e.1) es s.below; small = omega (arith, s.small, length-remove-le k es) }
sound-remove n (Variable w) k is s = absurd is
sound-remove n (TextCell t) k is s = absurd is
sound-remove n (ListCell vs) k is s = absurd is
sound-remove n (ClosureCell node env) k is s = absurd is
sound-remove n (ThrownCell class m) k is s = absurd is

pub bytes-remove_pair : (old : Cell) (k : Key) (was : Value) → HasMap (Some old) → lookup (same_key k) (pairs_in (Some old)) ≡ Some was → cell_bytes (MapCell (remove_entry (same_key k) (pairs_in (Some old)))) + (32 + key_bytes k) ≡ cell_bytes old
bytes-remove_pair (MapCell es) k was is had = omega (arith, bytes-remove k es was had)
bytes-remove_pair (Variable w) k was is had = absurd is
bytes-remove_pair (TextCell t) k was is had = absurd is
bytes-remove_pair (ListCell vs) k was is had = absurd is
bytes-remove_pair (ClosureCell node env) k was is had = absurd is
bytes-remove_pair (ThrownCell class m) k was is had = absurd is

pub bytes-variable : (old : Cell) → HasVariable (Some old) → cell_bytes old ≡ 16
bytes-variable (Variable w) is = omega arith
bytes-variable (TextCell t) is = absurd is
bytes-variable (ListCell vs) is = absurd is
bytes-variable (MapCell es) is = absurd is
bytes-variable (ClosureCell node env) is = absurd is
bytes-variable (ThrownCell class m) is = absurd is

sound_put_by : (n : ℕ) (old : Cell) (k : Key) (v : Value) (bytes : ℕ) (o : Option Value) → HasMap (Some old) → IsSoundIn n old → ValueBelow n v → lookup (same_key k) (pairs_in (Some old)) ≡ o → put_limit bytes (pairs_in (Some old)) k o ≡ None → IsSoundIn n (MapCell (insert_entry same_key (pairs_in (Some old)) k v))
sound_put_by n old k v bytes (Some was) is s p had none = sound-put_old n old k v was is s p had
sound_put_by n old k v bytes None is s p had none =
    let few = few-from_none bytes (length (pairs_in (Some old)) + 1) (32 + key_bytes k) none in
    sound-put_new n old k v is s p had (omega (arith, few))

-- a map after a key got a value, where no limit is passed
pub sound-put : (n : ℕ) (old : Cell) (k : Key) (v : Value) (bytes : ℕ) → HasMap (Some old) → IsSoundIn n old → ValueBelow n v → put_limit bytes (pairs_in (Some old)) k (lookup (same_key k) (pairs_in (Some old))) ≡ None → IsSoundIn n (MapCell (insert_entry same_key (pairs_in (Some old)) k v))
sound-put n old k v bytes is s p none = sound_put_by n old k v bytes (lookup (same_key k) (pairs_in (Some old))) is s p refl none

bytes_put_by : (old : Cell) (k : Key) (v : Value) (o : Option Value) → HasMap (Some old) → lookup (same_key k) (pairs_in (Some old)) ≡ o → cell_bytes (MapCell (insert_entry same_key (pairs_in (Some old)) k v)) ≡ cell_bytes old + added_bytes k o
bytes_put_by old k v (Some was) is had = omega (arith, bytes-put_old old k v was is had)
bytes_put_by old k v None is had = bytes-put_new old k v is had

pub bytes-put : (old : Cell) (k : Key) (v : Value) → HasMap (Some old) → cell_bytes (MapCell (insert_entry same_key (pairs_in (Some old)) k v)) ≡ cell_bytes old + added_bytes k (lookup (same_key k) (pairs_in (Some old)))
bytes-put old k v is = bytes_put_by old k v (lookup (same_key k) (pairs_in (Some old))) is refl
