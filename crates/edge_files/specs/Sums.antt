-- The sums beside a store. This product's own rules (docs/FORMATS.md).
use Rattle.std.specs.Prelude.{◌++◌, ℕ, List, replicate, codes}
use Rattle.sha2.specs.Sha256.{sha256}

-- In front of the first record stands a sum of 32 zeros.
abbrev pub first_sum : List ℕ
first_sum = replicate 32 0

-- the sum of a record behind one with this sum: the digest of that sum and of the record's bytes, its open gate first
abbrev pub sum_behind : List ℕ → List ℕ → List ℕ
sum_behind before bytes = sha256 (before ++ bytes)

-- the 32 bytes with which the file begins: what it is, and of which build
abbrev pub sums_head : List ℕ → List ℕ
sums_head bits = codes "controller sums\n" ++ bits
