use Rattle.std.proofs.Common.{◌≡◌, drop}
use Rattle.image_check.specs.Requests.{numbers_rise, rise_behind}
use Rattle.image_check.proofs.held.rise.Given as goal

abbrev pub invariant-loop-number : goal.invariant-loop-number
invariant-loop-number l = rise_behind (λ n. n) l.before (drop l.number-index l.numbers) ≡ numbers_rise (λ n. n) l.numbers
