use Rattle.std.proofs.Common.{◌≡◌, drop, map}
use Rattle.std.specs.Ordering.{nat_cmp, on}
use Rattle.delta_form.specs.Changes.{EachBelow}
use Rattle.delta_form.specs.After.{are_apart}
use Rattle.delta_form.proofs.apart.are_apart.Given as goal

abbrev pub invariant-loop-number : goal.invariant-loop-number
invariant-loop-number g l = record {
  same : are_apart l.fn.numbers (map g.T.Numbered.by l.fn.items) ≡ are_apart (drop l.number-index l.fn.numbers) (map g.T.Numbered.by l.rest);
  numbers : EachBelow nat_cmp (drop l.number-index l.fn.numbers);
  rest : EachBelow (on g.T.Numbered.by nat_cmp) l.rest;
}
