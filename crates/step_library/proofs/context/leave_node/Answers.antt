use Rattle.std.proofs.Common.{refl}
use Rattle.cps_frames.specs.Standing.{standing}
use Rattle.step_library.proofs.ContextLaws.{left_made, popped}
use Rattle.step_library.proofs.context.leave_node.Goals as goal

pub returns : goal.returns
returns c = record {
  made = left_made (standing c.args.shared.now c.args.state.now).world c.in-Some.request c.pop.new.self c.pop-2.new.self c.release.new.held c.in-Some.ensures (popped _ _ _ c.in-Some-pop.ensures) c.release.ensures;
  stack = refl;
  parent = refl;
  heap = refl;
}
