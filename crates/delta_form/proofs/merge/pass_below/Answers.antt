use Rattle.std.proofs.Common.{◌∙◌, ◌++◌}
use Rattle.delta_form.specs.Changes.{parted}
use Rattle.delta_form.proofs.Fronts.{fewer, left_same, passed_more, stopped, stopped_left}
use Rattle.delta_form.proofs.merge.pass_below.Goals as goal

pub loop-item-smaller : goal.loop-item-smaller
loop-item-smaller g c = fewer (λ x. g.C.Change.changing.compare x c.args.change.now) c.loop-item.rest.items c.pop_below.new.rest.items c.in-Some.item c.in-Some.ensures

pub loop-item-preserved : goal.loop-item-preserved
loop-item-preserved g c =
    let compare = λ (x : g.row.T.Denot). g.C.Change.changing.compare x c.args.change.now in
    record {
      passed = passed_more compare c.loop-item.done c.push.new.self (c.args.done.now ++ (parted compare c.args.rest.now.items).0) c.loop-item.rest.items c.pop_below.new.rest.items c.in-Some.item c.in_ok-push.ensures.pushed c.in-Some.ensures c.loop-item.invariant.passed;
      left = c.loop-item.invariant.left ∙ left_same compare c.loop-item.rest.items c.pop_below.new.rest.items c.in-Some.item c.in-Some.ensures;
    }

pub returns : goal.returns
returns g c =
    let compare = λ (x : g.row.T.Denot). g.C.Change.changing.compare x c.args.change.now in
    record {
      passed = stopped compare c.loop-item.done (c.args.done.now ++ (parted compare c.args.rest.now.items).0) c.loop-item.rest.items c.pop_below.new.rest.items c.in_default.ensures c.loop-item.invariant.passed;
      left = stopped_left compare c.loop-item.rest.items c.pop_below.new.rest.items (parted compare c.args.rest.now.items).1 c.in_default.ensures c.loop-item.invariant.left;
    }
