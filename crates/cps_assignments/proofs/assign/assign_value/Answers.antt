use Rattle.std.proofs.Common.{subst}
use Rattle.model_run.specs.Around.{frame, under}
use Rattle.model_run.specs.Forms.{after}
use Rattle.model_run.specs.declared.ending.Entry.TheVariants.{First}
use Rattle.model_run.specs.declared.frame.FrameKind.TheVariants as kind
use Rattle.cps_frames.specs.Moves.{ComesTo}
use Rattle.cps_frames.specs.Standing.{standing}
use Rattle.cps_assignments.proofs.TargetLaws.{value_part}
use Rattle.cps_assignments.proofs.assign.assign_value.Goals as goal

pub under-requires-clause-part : goal.under-requires-clause-part
under-requires-clause-part c = value_part _ _ c.requires

pub returns : goal.returns
returns c = λ r lt.
    subst (λ n. ComesTo c.args.node r (λ sh a. under a (frame kind.AssignValue c.args.node 0 n c.args.kept) (after (frame kind.AssignValue c.args.node 0 n c.args.kept) sh a) First 1 c.args.env) (standing c.args.shared.now c.args.state.now) c.under.result (standing c.args.shared.now c.under.new.state)) c.in_ok-clone.ensures.cases
    (c.under.ensures r lt)
