use Rattle.std.proofs.Common.{◌∙◌, ℕ, List, get_or, map, sym, ap, subst, add-one}
use Rattle.std.proofs.lemmas.List.{drop_all}
use Rattle.std.specs.Ordering.{nat_cmp, on}
use Rattle.delta_form.specs.Changes.{EachBelow}
use Rattle.delta_form.specs.After.{are_apart}
use Rattle.delta_form.proofs.NoneInBoth.{rest_rises, turn_apart, turn_not_apart, turn_rises}
use Rattle.delta_form.proofs.apart.are_apart.Goals as goal

pub loop-number-preserved : goal.loop-number-preserved
loop-number-preserved g c =
    let number = g.T.Numbered.by in
    let all = c.args.numbers.now in
    let i = c.loop-number.number-index in
    let inv = c.loop-number.invariant in
    rw add-one (record {
      same = inv.same ∙ turn_apart number all i c.loop-number.rest.now c.from_number-rest.result.now c.loop-number-test.true inv.numbers inv.rest c.from_number-rest.ensures c.if-begins_at.ensures;
      numbers = turn_rises number all i c.loop-number-test.true inv.numbers;
      rest = subst (EachBelow (on number nat_cmp)) (sym c.from_number-rest.ensures) (rest_rises number (get_or all i 0) c.loop-number.rest.now inv.rest);
    })

pub returns-then-begins_at : goal.returns-then-begins_at
returns-then-begins_at g c =
    let inv = c.loop-number.invariant in
    sym (inv.same ∙ turn_not_apart g.T.Numbered.by c.args.numbers.now c.loop-number.number-index c.loop-number.rest.now c.from_number-rest.result.now c.loop-number-test.true c.from_number-rest.ensures c.if-begins_at.ensures)

pub returns : goal.returns
returns g c =
    let inv = c.loop-number.invariant in
    sym (inv.same ∙ ap (λ (l : List ℕ). are_apart l (map g.T.Numbered.by c.loop-number.rest.now)) (drop_all c.loop-number.number-index c.args.numbers.now c.loop-number-test.false))
