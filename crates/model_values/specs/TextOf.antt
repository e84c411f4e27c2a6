-- The text of a value, as UTF-8.
use Rattle.std.specs.Prelude.{ℕ, zero, suc, ◌+◌, nat_lt, Bool, true, false, if◌then◌else◌, List, [], ◌∷◌, ◌++◌, length, codes}
use Rattle.std.specs.Fmt.{signed_decimal}
use Rattle.model_values.specs.Cells.{Answer, Meets, new_text}
use Rattle.model_values.specs.Limits.{Limits}
use Rattle.model_values.specs.Throwables.{thrown_text}
use Rattle.model_values.specs.Kinds.{Kind, null, flag, number, text, items, pairs, closure, thrown, kind}
use Rattle.model_values.specs.Types.{Value, Key, IntKey, TextKey, Cell, LimitKind, TextLength, ValueDepth}

-- a text so far, or the limit that it met first
pub data Writing : Type 0 where
  Wrote : List ℕ → Writing
  Stops : LimitKind → Writing

abbrev pub write_then : Writing → (List ℕ → Writing) → Writing
write_then (Wrote t) go = go t
write_then (Stops k) go = Stops k

abbrev pub key_text : Key → List ℕ
key_text (IntKey x) = signed_decimal x
key_text (TextKey t) = t

module _ (l : Limits) (h : List Cell) where
  -- bytes behind a text, in the order in which they stand in it
  abbrev pub behind : List ℕ → List ℕ → Writing
  behind more t = if nat_lt l.text (length t + length more) then Stops TextLength else Wrote (t ++ more)

  -- Groovy: `[a, b]`
  abbrev pub values_behind : (Value → List ℕ → Writing) → Bool → List Value → List ℕ → Writing
  values_behind part first [] t = behind (codes "]") t
  values_behind part true (v ∷ vs) t = write_then (part v t) (values_behind part false vs)
  values_behind part false (v ∷ vs) t = write_then (write_then (behind (codes ", ") t) (part v)) (values_behind part false vs)

  -- Groovy: `[k:v, l:w]`
  abbrev pub pairs_behind : (Value → List ℕ → Writing) → Bool → List (Key × Value) → List ℕ → Writing
  pairs_behind part first [] t = behind (codes "]") t
  pairs_behind part true (e ∷ es) t = write_then (write_then (behind (key_text e.0 ++ codes ":") t) (part e.1)) (pairs_behind part false es)
  pairs_behind part false (e ∷ es) t =
      write_then (write_then (behind (codes ", " ++ key_text e.0 ++ codes ":") t) (part e.1)) (pairs_behind part false es)

  -- what each kind writes, where `values` and `entries` write what stands behind the `[` of a list and of a map.
  -- Groovy, but for `closure`, which is this product's own
  abbrev pub kind_behind : (List Value → List ℕ → Writing) → (List (Key × Value) → List ℕ → Writing) → Kind → List ℕ → Writing
  kind_behind values entries null t = behind (codes "null") t
  kind_behind values entries (flag true) t = behind (codes "true") t
  kind_behind values entries (flag false) t = behind (codes "false") t
  kind_behind values entries (number x) t = behind (signed_decimal x) t
  kind_behind values entries (text s) t = behind s t
  kind_behind values entries (items c vs) t = write_then (behind (codes "[") t) (values vs)
  kind_behind values entries (pairs c es) t = write_then (behind (codes "[") t) (entries es)
  kind_behind values entries (closure c) t = behind (codes "closure") t
  kind_behind values entries (thrown c class m) t = behind (thrown_text class m) t

  -- Groovy: the empty map is `[:]`
  abbrev pub inside_map : (Value → List ℕ → Writing) → List (Key × Value) → List ℕ → Writing
  inside_map part [] t = behind (codes ":]") t
  inside_map part (e ∷ es) t = pairs_behind part true (e ∷ es) t

  -- a value's text behind another, with at most so many lists and maps inside each other; the `[` of one too many
  -- counts before the depth
  unfoldable pub text_within : ℕ → Value → List ℕ → Writing
  text_within zero v t = kind_behind (λ vs s. Stops ValueDepth) (λ es s. Stops ValueDepth) (kind h v) t
  text_within (suc left) v t =
      kind_behind (values_behind (text_within left) true) (inside_map (text_within left)) (kind h v) t

  -- a value's text behind another text
  abbrev pub text_behind : Value → List ℕ → Writing
  text_behind v t = text_within l.depth v t

  abbrev pub text_of : Value → Writing
  text_of v = text_behind v []

  -- a new text of what was written
  abbrev pub written : Writing → Answer
  written (Wrote t) = new_text l h t
  written (Stops k) = Meets k

  -- the texts of values, one behind the other
  abbrev pub texts_behind : List Value → List ℕ → Writing
  texts_behind [] t = Wrote t
  texts_behind (v ∷ vs) t = write_then (text_behind v t) (texts_behind vs)
