use Rattle.std.proofs.Common.{◌∙◌, sym}
use Rattle.delta_form.proofs.InOrder.{is_in_order}
use Rattle.delta_form.proofs.image_after.apply.Goals as goal

pub with_changes-requires : goal.with_changes-requires
with_changes-requires c = is_in_order c.args.delta (sym c.is_in_order.ensures ∙ c.if-is_in_order.true)
