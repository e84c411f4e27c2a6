-- How the entries of a map are found by their keys: beside them stand their places, in the order of the keys there.
use Rattle.std.specs.Prelude.{ℕ, ◌-◌, ◌<◌, nat_lt, if◌then◌else◌, List, length, map, pos, slice_get, slice_index_or, Option, Some, None}
use Rattle.std.specs.List.{All, Contains}
use Rattle.std.specs.List.Sorted.{IsStrictlySortedBy}
use Rattle.std.specs.declared.cmp.Ordering.{Ordering}
use Rattle.std.specs.declared.cmp.Ordering.TheVariants.{Greater}
use Rattle.model_values.specs.declared.key.Key.{Key}
use Rattle.model_values.specs.declared.key.Key.TheVariants.{Int as IntKey}
use Rattle.model_values.specs.Keys.{key_cmp}

-- the key at a place
abbrev pub key_at : List Key → ℕ → Key
key_at keys place = slice_index_or keys place (IntKey (pos 0))

-- this product's own: the place of each entry and no other, each with a greater key than the one before
pub record IsKeyOrder (keys : List Key) (places : List ℕ) : Type 0 where
  pub within : All (λ place. place < length keys) places
  pub each : (place : ℕ) → place < length keys → Contains places place
  pub ascending : IsStrictlySortedBy key_cmp (map (key_at keys) places)

-- how the key at a place compares with another; where there is none, it is behind all
abbrev pub compare_from : Option Key → Key → Ordering
compare_from (Some own) key = key_cmp own key
compare_from None key = Greater

abbrev pub place_cmp : List Key → Key → ℕ → Ordering
place_cmp keys key place = compare_from (slice_get keys place) key

-- a place, where the entry at `gone` has gone
abbrev pub lowered : ℕ → ℕ → ℕ
lowered gone place = if nat_lt gone place then place - 1 else place
