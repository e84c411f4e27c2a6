-- The parts of two lists and of two maps, one pair further.
use Rattle.std.proofs.Common.{◌≡◌, ℕ, ◌+◌, ◌<◌, Bool, true, false, cond, List, [], ◌∷◌, length, get_or, drop, Option, Some, slice_get, unwrap_or, is_some, ◌&&◌, sym, ap, ap₂, ◌∙◌, subst}
use Rattle.std.specs.List.{zip}
use Rattle.std.specs.Map.{lookup}
use Rattle.std.proofs.lemmas.List.{drop_more}
use Rattle.std.proofs.lemmas.List.Elements.{All-get_or, All-head, All-tail}
use Rattle.std.proofs.lemmas.Option.{slice_get_within, get_or_from_slice_get}
use Rattle.std.specs.List.{All}
use Rattle.cell_heap.specs.Soundness.{ValueBelow}
use Rattle.model_values.specs.Equality.{Equality, Is, and_then, by_key, has_keys, parts_equal}
use Rattle.model_values.specs.Keys.{same_key}
use Rattle.model_values.specs.declared.key.Key.{Key}
use Rattle.model_values.specs.declared.value.Value.{Value}
use Rattle.model_values.specs.declared.value.Value.TheVariants.{Null}

pub zip-more : (xs ys : List Value) (i : ℕ) (c d : Value) → i < length xs → i < length ys → zip (drop i xs) (drop i ys) ≡ (get_or xs i c, get_or ys i d) ∷ zip (drop (i + 1) xs) (drop (i + 1) ys)
zip-more xs ys i c d p q =
    let paired : List Value → List Value → List (Value × Value) = λ us vs. zip us vs in
    ap₂ paired (drop_more xs i c p) (drop_more ys i d q)

-- the entries from this one on
pub entries-more : (es : List (Key × Value)) (i : ℕ) (e : Key × Value) → slice_get es i ≡ Some e → drop i es ≡ e ∷ drop (i + 1) es
entries-more es i e got =
    drop_more es i e (slice_get_within es i e got) ∙ ap (λ f. f ∷ drop (i + 1) es) (get_or_from_slice_get es i e e got)

pub by_key-more : (es fs : List (Key × Value)) (i : ℕ) (e : Key × Value) → slice_get es i ≡ Some e → by_key (drop i es) fs ≡ (e.1, unwrap_or (lookup (same_key e.0) fs) Null) ∷ by_key (drop (i + 1) es) fs
by_key-more es fs i e got = ap (λ gs. by_key gs fs) (entries-more es i e got)

pub has_keys-more : (es fs : List (Key × Value)) (i : ℕ) (e : Key × Value) → slice_get es i ≡ Some e → has_keys (drop i es) fs ≡ (is_some (lookup (same_key e.0) fs) && has_keys (drop (i + 1) es) fs)
has_keys-more es fs i e got = ap (λ gs. has_keys gs fs) (entries-more es i e got)

-- a key that is there, and one that is not
pub has_keys-present : (es fs : List (Key × Value)) (i : ℕ) (e : Key × Value) (whole : Bool) → slice_get es i ≡ Some e → is_some (lookup (same_key e.0) fs) ≡ true → has_keys (drop i es) fs ≡ whole → has_keys (drop (i + 1) es) fs ≡ whole
has_keys-present es fs i e whole got there before =
    sym (ap (λ b. b && has_keys (drop (i + 1) es) fs) there) ∙ sym (has_keys-more es fs i e got) ∙ before

pub has_keys-absent : (es fs : List (Key × Value)) (i : ℕ) (e : Key × Value) (whole : Bool) → slice_get es i ≡ Some e → is_some (lookup (same_key e.0) fs) ≡ false → has_keys (drop i es) fs ≡ whole → false ≡ whole
has_keys-absent es fs i e whole got gone before =
    sym (ap (λ b. b && has_keys (drop (i + 1) es) fs) gone) ∙ sym (has_keys-more es fs i e got) ∙ before

-- a pair gave this, so the rest of the comparison is this
pub parts-by_first : (same : Value → Value → ℕ → Equality) (ps rest : List (Value × Value)) (p : Value × Value) (n : ℕ) (e whole : Equality) → ps ≡ p ∷ rest → same p.0 p.1 n ≡ e → parts_equal same ps n ≡ whole → whole ≡ and_then e (parts_equal same rest)
parts-by_first same ps rest p n e whole split first before =
    sym before ∙ ap (λ qs. parts_equal same qs n) split ∙ ap (λ f. and_then f (parts_equal same rest)) first

-- a pair was equal, and one was not
pub goes_on : (b : Bool) (m : ℕ) (whole : Equality) (go : ℕ → Equality) → whole ≡ and_then (Is b m) go → b ≡ true → go m ≡ whole
goes_on b m whole go e t = sym (e ∙ ap (λ x. and_then (Is x m) go) t)

pub ends : (b : Bool) (m : ℕ) (whole : Equality) (go : ℕ → Equality) → whole ≡ and_then (Is b m) go → b ≡ false → whole ≡ Is false m
ends b m whole go e f = e ∙ ap (λ x. and_then (Is x m) go) f

-- the values of a map name what is there
pub entry_below : (n : ℕ) (es : List (Key × Value)) (i : ℕ) (e : Key × Value) → slice_get es i ≡ Some e → All (λ e. ValueBelow n e.1) es → ValueBelow n e.1
entry_below n es i e got all =
    subst (λ (x : Key × Value). ValueBelow n x.1) (get_or_from_slice_get es i e e got) (All-get_or (λ e. ValueBelow n e.1) es i e (slice_get_within es i e got) all)

found_below : (n : ℕ) (b : Bool) (v : Value) (o : Option Value) → ValueBelow n v → ValueBelow n (unwrap_or o Null) → ValueBelow n (unwrap_or (cond b (Some v) o) Null)
found_below n true v o p q = p
found_below n false v o p q = q

pub lookup_below : (n : ℕ) (k : Key) (es : List (Key × Value)) → All (λ e. ValueBelow n e.1) es → ValueBelow n (unwrap_or (lookup (same_key k) es) Null)
lookup_below n k [] all = tt
lookup_below n k (e ∷ es) all =
    found_below n (same_key k e.0) e.1 (lookup (same_key k) es) (All-head (λ e. ValueBelow n e.1) e es all) (lookup_below n k es (All-tail (λ e. ValueBelow n e.1) e es all))
