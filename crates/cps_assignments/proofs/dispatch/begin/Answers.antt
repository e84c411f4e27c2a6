use Rattle.std.proofs.Common.{◌∙◌, ◌^◌, ap, arith, sym}
use Rattle.model_run.specs.FrameTable.{is_declaration}
use Rattle.cps_assignments.proofs.AssignLaws.{to_assigned, to_declared}
use Rattle.cps_assignments.proofs.TargetLaws.{targets_else}
use Rattle.cps_assignments.proofs.dispatch.begin.Goals as goal

pub receiver-requires-clause-target : goal.receiver-requires-clause-target
receiver-requires-clause-target c = record { script = c.requires.script; node = c.requires.node; form = targets_else _ c.requires.form (ap is_declaration (sym c.kind.ensures) ∙ sym c.is_declaration.ensures ∙ c.if-is_declaration.false) }

pub returns-then-is_declaration : goal.returns-then-is_declaration
returns-then-is_declaration c = λ u passed. to_declared c.args.node c.args.env u _ _ _ (ap is_declaration (sym c.kind.ensures) ∙ sym c.is_declaration.ensures ∙ c.if-is_declaration.true) passed (c.declaration.ensures (2 ^ 66) (omega arith))

pub returns-else-is_declaration : goal.returns-else-is_declaration
returns-else-is_declaration c = λ u passed. to_assigned c.args.node c.args.env u _ _ _ c.requires.form (ap is_declaration (sym c.kind.ensures) ∙ sym c.is_declaration.ensures ∙ c.if-is_declaration.false) passed (c.receiver.ensures (2 ^ 66) (omega arith))
