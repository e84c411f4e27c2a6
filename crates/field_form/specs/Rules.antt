-- Which key may stand behind which items, in lists that rise and in maps.
use Rattle.std.specs.Prelude.{◌-◌, Bool, true, List, length, slice_get}
use Rattle.std.specs.Option.{option_map_or, is_none}
use Rattle.std.specs.Map.{lookup}
use Rattle.model_values.specs.Keys.{same_key}
use Rattle.model_values.specs.declared.key.Key.{Key}
use Rattle.model_values.specs.declared.value.Value.{Value}

-- the last item, where there is one, is below this key
abbrev pub rises : {V K : Type 0} → (V → K → Bool) → List V → K → Bool
rises below before key = option_map_or (λ last. below last key) (slice_get before (length before - 1)) true

-- no entry has this key
abbrev pub is_new : List (Key × Value) → Key → Bool
is_new before key = is_none (lookup (same_key key) before)
