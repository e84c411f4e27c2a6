-- Which records hold a whole image, and when the next one is to hold one (this product's own; docs/FORMATS.md).
use Rattle.std.specs.Prelude.{◌+◌, ◌-◌, ◌^◌, ℕ, Bool, false, nat_eq, nat_le, if◌then◌else◌, List, [], ◌∷◌, length, min}
use Rattle.delta_records.specs.declared.weights.Weights.{Weights}

-- the payload holds a whole image: it begins with 1
abbrev pub is_whole : List ℕ → Bool
is_whole [] = false
is_whole (kind ∷ bytes) = nat_eq kind 1

-- The bytes of the last payload with a whole image, and those of the payloads behind it together, with one payload more. They are
-- the greatest number of 64 bits where they are more; a journal is never so long.
abbrev pub weights_with : Weights → List ℕ → Weights
weights_with w payload =
    if is_whole payload then record { whole = length payload; behind = 0 }
    else record { whole = w.whole; behind = min (w.behind + length payload) (2 ^ 64 - 1) }

abbrev pub weights_from : Weights → List (List ℕ) → Weights
weights_from w [] = w
weights_from w (payload ∷ payloads) = weights_from (weights_with w payload) payloads

abbrev pub weights_of : List (List ℕ) → Weights
weights_of payloads = weights_from (record { whole = 0; behind = 0 }) payloads

-- The next record is to hold a whole image where there is none yet, or the payloads behind the last one with a whole image have
-- together at least as many bytes as that one.
abbrev pub is_whole_due : Weights → Bool
is_whole_due w = nat_le w.whole w.behind
