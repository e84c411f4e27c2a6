-- The text of a value and an equality by their first step, where so many more lists and maps may stand inside each
-- other: what `text_within` and `equal_within` are, whatever that number is.
use Rattle.std.specs.Prelude.{ℕ, ◌-◌, nat_eq, Bool, true, false, if◌then◌else◌, List, ◌++◌, codes}
use Rattle.model_values.specs.Equality as compared
use Rattle.model_values.specs.Kinds.{kind}
use Rattle.model_values.specs.Limits.{Limits}
use Rattle.model_values.specs.TextOf as written
use Rattle.model_values.specs.declared.value.Value.{Value}
use Rattle.model_values.specs.declared.key.Key.{Key}
use Rattle.model_values.specs.declared.cell.Cell.{Cell}
use Rattle.model_values.specs.declared.limit.LimitKind.TheVariants.{ValueDepth}

-- what stands in front of the value of an entry of a map
abbrev pub key_front : Bool → Key → List ℕ
key_front true k = written.key_text k ++ codes ":"
key_front false k = codes ", " ++ written.key_text k ++ codes ":"

module _ (l : Limits) (h : List Cell) where
  -- what stands behind the `[` of a list
  abbrev pub values_inside : ℕ → List Value → List ℕ → written.Writing
  values_inside left vs t =
      if nat_eq left 0 then written.Stops ValueDepth else written.values_behind l h (written.text_within l h (left - 1)) true vs t

  -- what stands behind the `[` of a map
  abbrev pub entries_inside : ℕ → List (Key × Value) → List ℕ → written.Writing
  entries_inside left es t =
      if nat_eq left 0 then written.Stops ValueDepth else written.inside_map l h (written.text_within l h (left - 1)) es t

  -- the text of a value behind another
  abbrev pub text_here : ℕ → Value → List ℕ → written.Writing
  text_here left v t = written.kind_behind l h (values_inside left) (entries_inside left) (kind h v) t

  -- what stands between a value of a list and the one before it, behind a text
  abbrev pub separated : Bool → List ℕ → written.Writing
  separated true t = written.Wrote t
  separated false t = written.behind l h (codes ", ") t

  -- a value of a list with what stands in front of it
  abbrev pub item_behind : (Value → List ℕ → written.Writing) → Bool → Value → List ℕ → written.Writing
  item_behind part first v t = written.write_then (separated first t) (part v)

  -- an entry of a map with what stands between it and the one before it
  abbrev pub entry_behind : (Value → List ℕ → written.Writing) → Bool → Key → Value → List ℕ → written.Writing
  entry_behind part first k v t = written.write_then (written.behind l h (key_front first k) t) (part v)

  -- what the parts of two lists or two maps give
  abbrev pub parts_inside : ℕ → List (Value × Value) → ℕ → compared.Equality
  parts_inside left ps n =
      if nat_eq left 0 then compared.Stops ValueDepth n else compared.parts_equal (compared.equal_within l h (left - 1)) ps n

  -- what two values give
  abbrev pub equal_here : ℕ → Value → Value → ℕ → compared.Equality
  equal_here left a b n = compared.counted_pair l h n (compared.kinds_equal (parts_inside left) (kind h a) (kind h b))
