-- Where no limit is passed.
use Rattle.std.proofs.Common.{◌≡◌, ℕ, ◌+◌, ◌≤◌, ltb, false, None, arith}
use Rattle.std.proofs.lemmas.Bool.Decides.{nat_tests}
use Rattle.cell_heap.specs.Refusals.{one_more_limit}

not_lt : (m n : ℕ) → n ≤ m → ltb m n ≡ false
not_lt m n h = grind (arith, nat_tests)

pub one_more_limit-none : (bytes entries n : ℕ) → entries ≤ 65536 → bytes + n ≤ 268435456 → one_more_limit bytes entries n ≡ None
one_more_limit-none bytes entries n few small = grind (arith, nat_tests)

pub few-from_none : (bytes entries n : ℕ) → one_more_limit bytes entries n ≡ None → entries ≤ 65536
few-from_none bytes entries n none = grind (arith, nat_tests)
