use denote.Exit.{no}
use denote.Param.Send.{arg_send, param_send}
use Rattle.jenkinsd.proofs.Sent.{thread_send}
use Rattle.jenkinsd.proofs.tests.threads.status_in_turn.Goals as goal

pub controller-ended-requires-send-R : goal.controller-ended-requires-send-R
controller-ended-requires-send-R c after κs within = param_send _ _ (arg_send _ no _ thread_send)
