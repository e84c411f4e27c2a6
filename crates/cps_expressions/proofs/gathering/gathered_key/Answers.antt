use Rattle.cps_frames.specs.Order.{rank}
use Rattle.cps_frames.specs.Standing.{standing}
use Rattle.cps_expressions.proofs.GatherLaws.{key_rank, to_key}
use Rattle.cps_expressions.proofs.gathering.gathered_key.Goals as goal

pub returns : goal.returns
returns c =
    let f = c.args.frame in
    to_key f c.args.value c.push.new.self c.current-at.result (standing c.args.shared.now c.args.state.now) c.inside_with.result (standing c.args.shared.now c.inside_with.new.state) c.requires.kind c.in_ok-push.ensures.pushed c.current-at.ensures.current (c.inside_with.ensures (rank f) (key_rank f c.requires.kind c.push.new.self))
