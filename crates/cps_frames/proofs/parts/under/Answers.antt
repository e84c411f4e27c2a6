use Rattle.std.proofs.Common.{◌∙◌, sym}
use Rattle.cps_frames.proofs.MoveLaws.{beside_frames, comes_under, same_world}
use Rattle.cps_frames.proofs.PartLaws.{part_there}
use Rattle.cps_frames.proofs.parts.under.Goals as goal

pub unreachable-requires : goal.unreachable-requires
unreachable-requires c = part_there _ _ _ c.requires.part (sym c.part.ensures.number ∙ c.in-None.is)

pub returns : goal.returns
returns c = λ r lt.
    comes_under r _ _ c.args.frame _ _ _ _ (same_world c.args.shared.now c.args.state.now c.push.new.self c.in_ok-push-in-Some.ensures.same) c.in_ok-push-in-Some.ensures.pushed (beside_frames c.args.shared.now c.args.state.now c.push.new.self c.push.ensures.parent)
    (record { found = c.in-Some.ensures.found; behind = c.in-Some.ensures.behind.0; within = c.in-Some.ensures.behind.1 }) c.requires.entry lt
