-- What the bytes of a journal's file stand for (docs/FORMATS.md has them in a table).
use Rattle.std.specs.Prelude.{◌≡◌, ◌⊎◌, ◌<◌, ◌+◌, ◌^◌, ℕ, zero, suc, Bool, true, false, List, [], ◌∷◌, ◌++◌, length, take, drop, if◌then◌else◌, ◌==◌, nat_lt}
use Rattle.byteorder.specs.Endian.{big_bytes, big_number}

-- the payloads of the records in order, and whether they end at a closed gate; else the next record is damaged
pub record Walked : Type 0 where
  pub payloads : List (List ℕ)
  pub is_whole : Bool

abbrev pub one_more : List ℕ → Walked → Walked
one_more payload walked = record { payloads = payload ∷ walked.payloads; is_whole = walked.is_whole }

-- From a gate on, over at most n records: a gate of 1 is open, and a length of four bytes, the highest first, so many
-- bytes of payload and the next gate stand behind it. A record whose next gate lies past the end is damaged.
abbrev pub walk : ℕ → List ℕ → Walked
walk zero file = record { payloads = []; is_whole = true }
walk (suc n) [] = record { payloads = []; is_whole = false }
walk (suc n) (gate ∷ rest) =
    if gate == 1
    then (if nat_lt (4 + big_number 4 rest) (length rest)
    then one_more (take (big_number 4 rest) (drop 4 rest)) (walk n (drop (4 + big_number 4 rest) rest))
    else record { payloads = []; is_whole = false })
    else record { payloads = []; is_whole = true }

-- a file under six bytes has no record
abbrev pub records : List ℕ → Walked
records file = if nat_lt (length file) 6 then record { payloads = []; is_whole = true } else walk (length file) file

-- the file has just these records, up to a closed gate
abbrev pub Has : List (List ℕ) → List ℕ → Type 0
Has payloads file = records file ≡ record { payloads = payloads; is_whole = true }

-- the file has just these records, and then a damaged one
abbrev pub HasThenDamaged : List (List ℕ) → List ℕ → Type 0
HasThenDamaged payloads file = records file ≡ record { payloads = payloads; is_whole = false }

-- these records, or these and the new one
abbrev pub HasWithOrWithout : List (List ℕ) → List ℕ → List ℕ → Type 0
HasWithOrWithout payloads payload file = Has payloads file ⊎ Has (payloads ++ payload ∷ []) file

-- what stands behind the gate of a record: its length, its payload and the next gate, closed
abbrev pub body : List ℕ → List ℕ
body payload = big_bytes 4 (length payload) ++ payload ++ 0 ∷ []

-- records behind open gates, up to where the next gate stands
abbrev pub framed : List (List ℕ) → List ℕ
framed [] = []
framed (payload ∷ payloads) = 1 ∷ big_bytes 4 (length payload) ++ payload ++ framed payloads

-- four bytes hold the length of each
abbrev pub Fit : List (List ℕ) → Type 0
Fit [] = Unit {0}
Fit (payload ∷ payloads) = (length payload < 2 ^ 32) × Fit payloads
