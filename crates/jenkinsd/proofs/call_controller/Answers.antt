use denote.Exit.{no}
use denote.Param.Send.{arg_send, param_send}
use Rattle.jenkinsd.proofs.Sent.{thread_send}
use Rattle.jenkinsd.proofs.call_controller.Goals as goal

pub controller-requires-send-R : goal.controller-requires-send-R
controller-requires-send-R c after κs within = param_send _ _ (arg_send _ no _ thread_send)
