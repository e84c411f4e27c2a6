use Rattle.std.proofs.Common.{Option, subst}
use Rattle.std.specs.Prelude.{IfSome}
use Rattle.build_images.specs.Lower.build_core.Builds.{setting_in}
use Rattle.build_images.specs.Images.{HasImage, image_in}
use Rattle.delta_records.specs.Lower.delta_form.declared.delta.Delta.{Delta}
use Rattle.durable_build.specs.Adding.{IsDueDelta}
use Rattle.durable_build.proofs.OrderLemmas.{in_order}
use Rattle.durable_build.proofs.store.add_record.Goals as goal

pub add_changes-requires-clause-due : goal.add_changes-requires-clause-due
add_changes-requires-clause-due g c =
    let stance = g.R.ScriptThread.stance in
    let b = c.args.build.now in
    let has : HasImage stance b = subst (λ (o : Option Delta). IfSome o (λ _. HasImage stance b)) c.in-Some.is c.in_ok-changes.ensures.image in
    (image_in stance b, in_order (setting_in b) (image_in stance b) has.ordered, subst (IsDueDelta c.args.last.now.weights c.args.last.now.image (image_in stance b)) c.in-Some.is c.in_ok-changes.ensures.due)

pub returns-in-Some-clause-adds : goal.returns-in-Some-clause-adds
returns-in-Some-clause-adds g c =
    c.add_changes.ensures.adds (image_in g.R.ScriptThread.stance c.args.build.now)
    (subst (IsDueDelta c.args.last.now.weights c.args.last.now.image (image_in g.R.ScriptThread.stance c.args.build.now)) c.in-Some.is c.in_ok-changes.ensures.due)

pub returns-in-Some-clause-last : goal.returns-in-Some-clause-last
returns-in-Some-clause-last g c =
    c.add_changes.ensures.last (image_in g.R.ScriptThread.stance c.args.build.now)
    (subst (IsDueDelta c.args.last.now.weights c.args.last.now.image (image_in g.R.ScriptThread.stance c.args.build.now)) c.in-Some.is c.in_ok-changes.ensures.due)

pub returns-in-Some-clause-image : goal.returns-in-Some-clause-image
returns-in-Some-clause-image g c = λ no.
    let stance = g.R.ScriptThread.stance in
    subst (λ (o : Option Delta). IfSome o (λ _. HasImage stance c.args.build.now)) c.in-Some.is c.in_ok-changes.ensures.image
