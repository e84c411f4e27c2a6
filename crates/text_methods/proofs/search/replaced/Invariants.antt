use Rattle.std.proofs.Common.{◌≡◌, ◌++◌, zero, length}
use Rattle.model_values.specs.Searching.{replaced_behind}
use Rattle.text_methods.proofs.search.replaced.Given as goal

abbrev pub invariant-loop-at : goal.invariant-loop-at
invariant-loop-at l =
    l.built ++ replaced_behind zero l.rest l.old l.new ≡ replaced_behind zero l.text l.old l.new

abbrev pub decreases-loop-at : goal.decreases-loop-at
decreases-loop-at l = length l.rest
