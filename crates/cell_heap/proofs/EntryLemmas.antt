-- The entries of a map after a key got a value, and after an entry was taken out.
use Rattle.std.proofs.Common.{◌≡◌, ◌+◌, ◌≤◌, Bool, true, false, cond, List, [], ◌∷◌, length, Option, Some, None, refl, ap, arith}
use Rattle.std.specs.List.{All}
use Rattle.std.specs.Map.{lookup, remove_entry}
use Rattle.std.proofs.lemmas.List.Elements.{All-nil, All-cons, All-head, All-tail}
use Rattle.indexmap.specs.IndexMap.{insert_entry}
use Rattle.model_values.specs.Cells.{entry_bytes, key_bytes}
use Rattle.model_values.specs.KeyLaws.{same_key_decides}
use Rattle.model_values.specs.Keys.{same_key}
use Rattle.cell_heap.specs.ValueTypes.{Key, Value}

module _ (k : Key) (v : Value) where
  -- each lemma by what `same_key` says of the first key
  length_at_new : (b : Bool) (e : Key × Value) (es rest : List (Key × Value)) (o : Option Value) → cond b (Some e.1) o ≡ None → (o ≡ None → length rest ≡ length es + 1) → length (cond b ((e.0, v) ∷ es) (e ∷ rest)) ≡ length (e ∷ es) + 1
  length_at_new true e es rest o h t = cc
  length_at_new false e es rest o h t = omega (arith, t h)

  pub length-insert_new : (es : List (Key × Value)) → lookup (same_key k) es ≡ None → length (insert_entry same_key es k v) ≡ length es + 1
  length-insert_new [] h = omega arith
  length-insert_new (e ∷ es) h = length_at_new (same_key k e.0) e es (insert_entry same_key es k v) (lookup (same_key k) es) h (length-insert_new es)

  length_at_old : (b : Bool) (e : Key × Value) (es rest : List (Key × Value)) (o : Option Value) (old : Value) → cond b (Some e.1) o ≡ Some old → (o ≡ Some old → length rest ≡ length es) → length (cond b ((e.0, v) ∷ es) (e ∷ rest)) ≡ length (e ∷ es)
  length_at_old true e es rest o old h t = refl
  length_at_old false e es rest o old h t = omega (arith, t h)

  pub length-insert_old : (es : List (Key × Value)) (old : Value) → lookup (same_key k) es ≡ Some old → length (insert_entry same_key es k v) ≡ length es
  length-insert_old [] old h = cc
  length-insert_old (e ∷ es) old h = length_at_old (same_key k e.0) e es (insert_entry same_key es k v) (lookup (same_key k) es) old h (length-insert_old es old)

  bytes_at_new : (b : Bool) (e : Key × Value) (es rest : List (Key × Value)) (o : Option Value) → cond b (Some e.1) o ≡ None → (o ≡ None → entry_bytes rest ≡ entry_bytes es + (32 + key_bytes k)) → entry_bytes (cond b ((e.0, v) ∷ es) (e ∷ rest)) ≡ entry_bytes (e ∷ es) + (32 + key_bytes k)
  bytes_at_new true e es rest o h t = cc
  bytes_at_new false e es rest o h t = omega (arith, t h)

  pub bytes-insert_new : (es : List (Key × Value)) → lookup (same_key k) es ≡ None → entry_bytes (insert_entry same_key es k v) ≡ entry_bytes es + (32 + key_bytes k)
  bytes-insert_new [] h = omega arith
  bytes-insert_new (e ∷ es) h = bytes_at_new (same_key k e.0) e es (insert_entry same_key es k v) (lookup (same_key k) es) h (bytes-insert_new es)

  bytes_at_old : (b : Bool) (e : Key × Value) (es rest : List (Key × Value)) (o : Option Value) (old : Value) → cond b (Some e.1) o ≡ Some old → (o ≡ Some old → entry_bytes rest ≡ entry_bytes es) → entry_bytes (cond b ((e.0, v) ∷ es) (e ∷ rest)) ≡ entry_bytes (e ∷ es)
  bytes_at_old true e es rest o old h t = refl
  bytes_at_old false e es rest o old h t = omega (arith, t h)

  pub bytes-insert_old : (es : List (Key × Value)) (old : Value) → lookup (same_key k) es ≡ Some old → entry_bytes (insert_entry same_key es k v) ≡ entry_bytes es
  bytes-insert_old [] old h = cc
  bytes-insert_old (e ∷ es) old h = bytes_at_old (same_key k e.0) e es (insert_entry same_key es k v) (lookup (same_key k) es) old h (bytes-insert_old es old)

  all_at : (P : Value → Type 0) (b : Bool) (e : Key × Value) (es rest : List (Key × Value)) → P v → All (λ (f : Key × Value). P f.1) (e ∷ es) → All (λ (f : Key × Value). P f.1) rest → All (λ (f : Key × Value). P f.1) (cond b ((e.0, v) ∷ es) (e ∷ rest))
  all_at P true e es rest p a t = All-cons (λ (f : Key × Value). P f.1) (e.0, v) es p (All-tail (λ (f : Key × Value). P f.1) e es a)
  all_at P false e es rest p a t = All-cons (λ (f : Key × Value). P f.1) e rest (All-head (λ (f : Key × Value). P f.1) e es a) t

  pub All-insert : (P : Value → Type 0) (es : List (Key × Value)) → P v → All (λ (f : Key × Value). P f.1) es → All (λ (f : Key × Value). P f.1) (insert_entry same_key es k v)
  All-insert P [] p a = All-cons (λ (f : Key × Value). P f.1) (k, v) [] p (All-nil (λ (f : Key × Value). P f.1))
  All-insert P (e ∷ es) p a = all_at P (same_key k e.0) e es (insert_entry same_key es k v) p a (All-insert P es p (All-tail (λ (f : Key × Value). P f.1) e es a))

module _ (k : Key) where
  remove_at : (b : Bool) (e : Key × Value) (es rest : List (Key × Value)) (o : Option Value) (old : Value) → (b ≡ true → k ≡ e.0) → cond b (Some e.1) o ≡ Some old → (o ≡ Some old → entry_bytes rest + (32 + key_bytes k) ≡ entry_bytes es) → entry_bytes (cond b es (e ∷ rest)) + (32 + key_bytes k) ≡ entry_bytes (e ∷ es)
  remove_at true e es rest o old s h t = let same : key_bytes k ≡ key_bytes e.0 = ap key_bytes (s refl) in omega (arith, same)
  remove_at false e es rest o old s h t = omega (arith, t h)

  pub bytes-remove : (es : List (Key × Value)) (old : Value) → lookup (same_key k) es ≡ Some old → entry_bytes (remove_entry (same_key k) es) + (32 + key_bytes k) ≡ entry_bytes es
  bytes-remove [] old h = cc
  bytes-remove (e ∷ es) old h = remove_at (same_key k e.0) e es (remove_entry (same_key k) es) (lookup (same_key k) es) old (same_key_decides k e.0).0 h (bytes-remove es old)

  length_at : (b : Bool) (e : Key × Value) (es rest : List (Key × Value)) → length rest ≤ length es → length (cond b es (e ∷ rest)) ≤ length (e ∷ es)
  length_at true e es rest t = omega arith
  length_at false e es rest t = omega (arith, t)

  pub length-remove-le : (es : List (Key × Value)) → length (remove_entry (same_key k) es) ≤ length es
  length-remove-le [] = omega arith
  length-remove-le (e ∷ es) = length_at (same_key k e.0) e es (remove_entry (same_key k) es) (length-remove-le es)

  all_left : (P : Key × Value → Type 0) (b : Bool) (e : Key × Value) (es rest : List (Key × Value)) → All P (e ∷ es) → All P rest → All P (cond b es (e ∷ rest))
  all_left P true e es rest a t = All-tail P e es a
  all_left P false e es rest a t = All-cons P e rest (All-head P e es a) t

  pub All-remove : (P : Key × Value → Type 0) (es : List (Key × Value)) → All P es → All P (remove_entry (same_key k) es)
  All-remove P [] a = a
  All-remove P (e ∷ es) a = all_left P (same_key k e.0) e es (remove_entry (same_key k) es) a (All-remove P es (All-tail P e es a))

  absent_at : (b : Bool) (e : Key × Value) (es rest : List (Key × Value)) (o : Option Value) → cond b (Some e.1) o ≡ None → (o ≡ None → rest ≡ es) → cond b es (e ∷ rest) ≡ e ∷ es
  absent_at true e es rest o h t = cc
  absent_at false e es rest o h t = ap (λ fs. e ∷ fs) (t h)

  -- nothing is taken out where the key is not there
  pub remove_absent : (es : List (Key × Value)) → lookup (same_key k) es ≡ None → remove_entry (same_key k) es ≡ es
  remove_absent [] h = refl
  remove_absent (e ∷ es) h = absent_at (same_key k e.0) e es (remove_entry (same_key k) es) (lookup (same_key k) es) h (remove_absent es)
