-- The length of two parts, one behind the other.
use Rattle.std.proofs.Common.{◌≡◌, ◌+◌, ℕ, List, ◌++◌, length, length-append}

pub two_parts : (xs ys : List ℕ) → length (xs ++ ys) ≡ length xs + length ys
two_parts xs ys = length-append xs ys
