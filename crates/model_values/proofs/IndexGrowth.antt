-- An index and a property, read and written.
use Rattle.std.proofs.Common.{arith, inr, ◌≡◌, ℕ, zero, suc, ℤ, Bool, true, false, List, [], ◌∷◌, length, Option, Some, None, cond}
use Rattle.std.specs.Prelude.{slice_get, slice_set, slice_index_or, codes, nat_eq, if◌then◌else◌, unwrap_or}
use Rattle.std.specs.List.{AllByRecursion as AllAre}
use Rattle.std.specs.Map.{lookup}
use Rattle.std.specs.Cmp.Lexicographic.{pointwise}
use Rattle.std.proofs.lemmas.List.{length-set}
use Rattle.model_values.specs.Cells.{Answer}
use Rattle.model_values.specs.Characters.{characters}
use Rattle.model_values.specs.Fitting.{There, HasText, IsIn, IsNullOrIn}
use Rattle.model_values.specs.Index.{Place, at, past, below, place_of, key_of, list_at, text_at, map_at, kind_at, get_at, set_list_at, set_map_at, set_kind_at, set_at, message_of, kind_property, get_property, set_kind_property, set_property, unless_null}
use Rattle.model_values.specs.Throws.{no_property}
use Rattle.model_values.specs.Keys.{same_key}
use Rattle.model_values.specs.Kinds.{Kind, null, number, text, items, pairs, thrown, kind}
use Rattle.model_values.specs.Types.{Value, Null, Key, TextKey, ListCell, Class}
use Rattle.model_values.proofs.CellGrowth.{Before, Answers, gives, wider, new_text_grows, items_there, pairs_there, list_changes, map_put_grows, all_set, text_is_there, text_or_null, text_or_null_there}
use Rattle.model_values.proofs.KindFacts.{KindFits, kind_fits}
use Rattle.model_values.proofs.LaterLaws.{later_changed, there_later}
use Rattle.model_values.proofs.ThrowGrowth.{outside_grows, bad_key_grows, bad_argument_grows, no_method_grows, no_property_grows, no_property_to_set_grows}

pub all_index : (P : Value → Type 0) (vs : List Value) (i : ℕ) (d : Value) → AllAre P vs → P d → P (slice_index_or vs i d)
all_index P [] i d h p = p
all_index P (v ∷ vs) zero d h p = h.0
all_index P (v ∷ vs) (suc i) d h p = all_index P vs i d h.1 p

lookup_step : (P : Value → Type 0) (test : Bool) (v : Value) (o : Option Value) → P v → P (unwrap_or o Null) → P (unwrap_or (cond test (Some v) o) Null)
lookup_step P true v o p q = p
lookup_step P false v o p q = q

-- the value of a key, or null
pub all_lookup : (P : Value → Type 0) (test : Key → Bool) (es : List (Key × Value)) → AllAre (λ e. P e.1) es → P Null → P (unwrap_or (lookup test es) Null)
all_lookup P test [] h p = p
all_lookup P test (e ∷ es) h p = lookup_step P (test e.0) e.1 (lookup test es) h.0 (all_lookup P test es h.1 p)

module _ (b : Before) where
  list_at_grows : (vs : List Value) (i : ℤ) (p : Place) → (b.given → AllAre (There b.h) vs) → Answers b There (list_at b.l b.h vs i p)
  list_at_grows vs i (at j) a = gives b There (slice_index_or vs j Null) (λ x. all_index (There b.h) vs j Null (a x) tt)
  list_at_grows vs i past a = gives b There Null (λ x. tt)
  list_at_grows vs i below a = outside_grows b There i (length vs)

  text_at_grows : (cs : List (List ℕ)) (i : ℤ) (p : Place) → Answers b (IsIn HasText) (text_at b.l b.h cs i p)
  text_at_grows cs i (at j) = new_text_grows b (slice_index_or cs j [])
  text_at_grows cs i past = outside_grows b (IsIn HasText) i (length cs)
  text_at_grows cs i below = outside_grows b (IsIn HasText) i (length cs)

  pub map_at_grows : (es : List (Key × Value)) (o : Option Key) → (b.given → AllAre (λ e. There b.h e.1) es) → Answers b There (map_at b.l b.h es o)
  map_at_grows es (Some k) a = gives b There (unwrap_or (lookup (same_key k) es) Null) (λ x. all_lookup (There b.h) (same_key k) es (a x) tt)
  map_at_grows es None a = bad_key_grows b There

  kind_at_grows : (on i : Kind) → KindFits b.h on → Answers b There (kind_at b.l b.h on i)
  kind_at_grows (items c vs) (number i) e = list_at_grows vs i (place_of i (length vs)) (items_there b c vs e)
  kind_at_grows (text s) (number i) e = text_is_there b _ (text_at_grows (characters s) i (place_of i (length (characters s))))
  kind_at_grows (pairs c es) i e = map_at_grows es (key_of i) (pairs_there b c es e)
  kind_at_grows (items c vs) i e = bad_argument_grows b There
  kind_at_grows (text s) i e = bad_argument_grows b There
  kind_at_grows on i e = no_method_grows b There on (codes "getAt")

  pub get_at_grows : (of i : Value) → Answers b There (get_at b.l b.h of i)
  get_at_grows of i = kind_at_grows (kind b.h of) (kind b.h i) (kind_fits b.h of)

  set_list_at_grows : (c : ℕ) (vs : List Value) (i : ℤ) (v : Value) (p : Place) → slice_get b.h c ≡ Some (ListCell vs) → (b.given → There b.h v) → Answers b There (set_list_at b.l b.h c vs i v p)
  set_list_at_grows c vs i v (at j) e t =
      list_changes b There c vs (slice_set vs j v) v e (inr (omega (arith, length-set vs j v), omega (arith, length-set vs j v))) (λ x. all_set (There b.h) vs j v (items_there b c vs e x) (t x))
      (λ x. there_later b.h (slice_set b.h c (ListCell (slice_set vs j v))) (later_changed b.h c (ListCell vs) (ListCell (slice_set vs j v)) e tt) v (t x))
  set_list_at_grows c vs i v past e t = outside_grows b There i (length vs)
  set_list_at_grows c vs i v below e t = outside_grows b There i (length vs)

  set_map_at_grows : (c : ℕ) (es : List (Key × Value)) (v : Value) (o : Option Key) → KindFits b.h (pairs c es) → (b.given → There b.h v) → Answers b There (set_map_at b.l b.h c es v o)
  set_map_at_grows c es v (Some k) e t = map_put_grows b c es k v v e t t
  set_map_at_grows c es v None e t = bad_key_grows b There

  set_kind_at_grows : (on i : Kind) (v : Value) → KindFits b.h on → (b.given → There b.h v) → Answers b There (set_kind_at b.l b.h on i v)
  set_kind_at_grows (items c vs) (number i) v e t = set_list_at_grows c vs i v (place_of i (length vs)) e t
  set_kind_at_grows (pairs c es) i v e t = set_map_at_grows c es v (key_of i) e t
  set_kind_at_grows (items c vs) i v e t = bad_argument_grows b There
  set_kind_at_grows on i v e t = no_method_grows b There on (codes "putAt")

  pub set_at_grows : (of i v : Value) → (b.given → There b.h v) → Answers b There (set_at b.l b.h of i v)
  set_at_grows of i v t = set_kind_at_grows (kind b.h of) (kind b.h i) v (kind_fits b.h of) t

  pub message_of_grows : (m : Option (List ℕ)) → Answers b (IsNullOrIn HasText) (message_of b.l b.h m)
  message_of_grows None = gives b (IsNullOrIn HasText) Null (λ x. tt)
  message_of_grows (Some m) = wider b (IsIn HasText) (IsNullOrIn HasText) (message_of b.l b.h (Some m)) text_or_null (new_text_grows b m)

  message_or_no_property : (is_message : Bool) (c : ℕ) (class : Class) (m : Option (List ℕ)) (p : List ℕ) → Answers b There (if is_message then message_of b.l b.h m else no_property b.l b.h (thrown c class m) p)
  message_or_no_property true c class m p = wider b (IsNullOrIn HasText) There (message_of b.l b.h m) text_or_null_there (message_of_grows m)
  message_or_no_property false c class m p = no_property_grows b There (thrown c class m) p

  kind_property_grows : (on : Kind) (p : List ℕ) → KindFits b.h on → Answers b There (kind_property b.l b.h on p)
  kind_property_grows (pairs c es) p e = map_at_grows es (Some (TextKey p)) (pairs_there b c es e)
  kind_property_grows (thrown c class m) p e = message_or_no_property (pointwise nat_eq p (codes "message")) c class m p
  kind_property_grows on p e = no_property_grows b There on p

  pub get_property_grows : (of : Value) (p : List ℕ) → Answers b There (get_property b.l b.h of p)
  get_property_grows of p = kind_property_grows (kind b.h of) p (kind_fits b.h of)

  set_kind_property_grows : (on : Kind) (p : List ℕ) (v : Value) → KindFits b.h on → (b.given → There b.h v) → Answers b There (set_kind_property b.l b.h on p v)
  set_kind_property_grows (pairs c es) p v e t = map_put_grows b c es (TextKey p) v v e t t
  set_kind_property_grows on p v e t = no_property_to_set_grows b There on p

  pub set_property_grows : (of : Value) (p : List ℕ) (v : Value) → (b.given → There b.h v) → Answers b There (set_property b.l b.h of p v)
  set_property_grows of p v t = set_kind_property_grows (kind b.h of) p v (kind_fits b.h of) t

  pub unless_null_grows : (on : Kind) (answer : Answer) → Answers b There answer → Answers b There (unless_null b.l b.h on answer)
  unless_null_grows null answer a = gives b There Null (λ x. tt)
  unless_null_grows on answer a = a
