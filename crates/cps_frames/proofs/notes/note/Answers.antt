use Rattle.std.proofs.Common.{refl}
use Rattle.cps_frames.proofs.NoteLaws.{headed}
use Rattle.cps_frames.proofs.notes.note.Goals as goal

pub returns : goal.returns
returns c = headed _ _ _ _ _ _ _ _ _ c.in_ok-number.ensures.number (c.in_ok-number.ensures.added c.args.state.now) refl refl refl refl
