use Rattle.std.proofs.Common.{◌∙◌, Ok, Some, ap, sym, subst}
use Rattle.build_images.specs.Lower.build_core.Builds.{setting_in}
use Rattle.build_images.specs.Images.{image_in}
use Rattle.durable_build.specs.Adding.{AddDone}
use Rattle.durable_build.proofs.MarkLemmas.{image_marked, same_marked}
use Rattle.durable_build.proofs.OrderLemmas.{in_order}
use Rattle.durable_build.proofs.store.add.Goals as goal

pub returns-clause-same : goal.returns-clause-same
returns-clause-same g c = same_marked g.R.ScriptThread.stance g.R.Runner.marked g.met.R.ScriptThread.marked_is c.args.build.now c.mark.new.self c.mark.ensures

pub returns-clause-image : goal.returns-clause-image
returns-clause-image g c = λ no. image_marked g.R.ScriptThread.stance g.R.Runner.marked g.met.R.ScriptThread.marked_is c.args.build.now c.mark.new.self c.mark.ensures (c.in_ok-add_record.ensures.image no)

pub returns-clause-adds : goal.returns-clause-adds
returns-clause-adds g c =
    let D = g.D.Disk in
    let stance = g.R.ScriptThread.stance in
    let image = (same_marked stance g.R.Runner.marked g.met.R.ScriptThread.marked_is c.args.build.now c.mark.new.self c.mark.ensures).image in
    subst (λ i. AddDone D c.args.last.now.weights c.args.last.now.image c.args.event.now i c.args.journal.now c.add_record.new.journal c.add_record.new.last.weights (Ok tt)) (sym image) c.in_ok-add_record.ensures.adds

pub returns-clause-last : goal.returns-clause-last
returns-clause-last g c =
    let stance = g.R.ScriptThread.stance in
    let image = (same_marked stance g.R.Runner.marked g.met.R.ScriptThread.marked_is c.args.build.now c.mark.new.self c.mark.ensures).image in
    let has = image_marked stance g.R.Runner.marked g.met.R.ScriptThread.marked_is c.args.build.now c.mark.new.self c.mark.ensures (c.in_ok-add_record.ensures.image (λ is. cc)) in
    (c.in_ok-add_record.ensures.last ∙ ap (λ i. Some i) (sym image), in_order (setting_in c.mark.new.self) (image_in stance c.mark.new.self) has.ordered)
