use Rattle.std.proofs.Common.{ℕ, ◌+◌, ◌<◌, ◌≤◌, length, take, drop}
use Rattle.std.specs.Str.{IsUtf8}
use Rattle.groovy_lex.proofs.characters.character_end.Given as goal

abbrev pub invariant-widths : goal.invariant-widths
invariant-widths l = (k : ℕ) → 2 ≤ k → k < l.width → l.at + k ≤ length l.src → IsUtf8 (take k (drop l.at l.src)) → ⊥
