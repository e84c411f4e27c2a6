use denote.Exit.{no}
use denote.Param.Send.{param_send, arg_send}
use Rattle.member_turns.proofs.Sent.{seat_send}
use Rattle.member_turns.proofs.round.work_all.Goals as goal

pub work_in_threads-requires-send-W : goal.work_in_threads-requires-send-W
work_in_threads-requires-send-W g c κs within = param_send _ _ (arg_send _ no _ (seat_send _ _ _ _ _ _ _ _ _ _ c.type_bounds.sync-T c.type_bounds.send-D c.type_bounds.send-R c.type_bounds.send-H c.type_bounds.send-A))
