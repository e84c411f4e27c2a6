use Rattle.std.proofs.Common.{◌∙◌, ◌-◌, drop, sym, arith}
use Rattle.std.proofs.lemmas.List.{length-drop}
use Rattle.delta_form.proofs.InOrder.{few_rise}
use Rattle.delta_form.proofs.order.rises.Goals as goal

pub returns : goal.returns
returns g c =
    let items = c.args.items.now in
    let before = c.loop-place.place - 1 in
    sym (c.loop-place.invariant ∙ few_rise g.T.Ordered.order (drop before items) (omega (arith, length-drop before items, c.loop-place-test.false, c.loop-place.auto.place)))
