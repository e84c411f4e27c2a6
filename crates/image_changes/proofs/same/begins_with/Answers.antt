use Rattle.std.proofs.Common.{◌∙◌, refl, sym, arith, below_more}
use Rattle.image_changes.proofs.Gets.{front_from_gets}
use Rattle.image_changes.proofs.same.begins_with.Goals as goal

pub loop-place-preserved : goal.loop-place-preserved
loop-place-preserved c = below_more _ _ c.loop-place.invariant (sym c.entry_at.ensures ∙ c.is_same_entry.ensures.0 c.if-not-is_same_entry.false ∙ c.entry_at-in-loop-place.ensures)

pub returns : goal.returns
returns c = (λ t. front_from_gets c.args.front.now c.args.entries.now c.loop-place.place (omega arith) c.loop-place.invariant, λ e. refl)
