use Rattle.std.proofs.Common.{◌∙◌, ◌++◌, ap}
use Rattle.model_run.specs.FlowNodes.{body_line}
use Rattle.cps_frames.proofs.NoteLaws.{branch_noted}
use Rattle.cps_frames.proofs.notes.note_branch.Goals as goal

pub returns-clause-noted : goal.returns-clause-noted
returns-clause-noted c =
    branch_noted c.args.name.now _ _ _ _ _ _ (c.in_ok-append.ensures.appended ∙ ap (λ l. l ++ c.args.name.now) c.in_ok-label.ensures)
    (c.as_slice-2.ensures ∙ c.in_ok-line.ensures ∙ ap body_line c.as_slice.ensures) c.in_ok-parents.ensures (c.add.ensures.added c.args.state.now)
