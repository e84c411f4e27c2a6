use Rattle.std.proofs.Common.{sym}
use Rattle.cps_frames.specs.Standing.{world_of}
use Rattle.cps_calls.proofs.MethodLaws.{no_call}
use Rattle.cps_calls.proofs.methods.called_closure.Goals as goal

pub returns-in_default : goal.returns-in_default
returns-in_default c = λ t. sym (no_call c.args.method (world_of c.args.shared.now t) c.args.on.now c.in_default.not-Call)
