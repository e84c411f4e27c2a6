use Rattle.std.proofs.Common.{rules, ◌<◌, ◌∙◌, ◌-◌, get_or, set, length, sym, ap, arith}
use Rattle.std.proofs.lemmas.List.Edits.{map_over_more}
use Rattle.std.proofs.lemmas.List.{take_all, drop_all, get_or_default}
use Rattle.model_values.specs.KeyOrder.{lowered}
use Rattle.model_values.proofs.KeyOrderLaws.{lowered_low, lowered_high}
use Rattle.model_values.proofs.places.lower.Goals as goal
use Rattle.model_values.proofs.places.lower.Goals.{then-place-gone, else-place-gone}

pub loop-place-preserved : goal.loop-place-preserved
loop-place-preserved c =
    let gone = c.args.gone in
    let all = c.args.places.now in
    let now = c.loop-place.places in
    let at = c.loop-place.place-index in
    let x = get_or now at 0 in
    let short : at < length now = omega arith in
    let step = map_over_more (lowered gone) all now at x c.loop-place-test.true c.loop-place.invariant (get_or_default now at 0 x short) in
    elim c.if-place-gone.branch [
      | then-place-gone w ↦ w.places-is ∙ ap (set now at) (sym (lowered_high gone x w.if-place-gone.true)) ∙ step
      | else-place-gone w ↦ w.places-is ∙ ap (set now at) (sym (lowered_low gone x w.if-place-gone.false)) ∙ step
    ]

pub returns : goal.returns
returns c = search (rules, take_all, drop_all)
