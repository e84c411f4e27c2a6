-- A thread of a build may go to another thread of the system, with all that it holds.
use denote.Param.Send.{IsSend, sendable}
use denote.Param.SendFields.{declared_send, variants_send}
use Rattle.std.proofs.Crossing.{crosses}
use Rattle.std.specs.contracts.option.Option as Option
use Rattle.chain.specs.contracts.chain.Chain as Chain
use Rattle.model_text.specs.contracts.sequence.Sequence as Sequence
use Rattle.model_values.specs.contracts.cell.Binding as Binding
use Rattle.model_values.specs.contracts.value.Value as Value
use Rattle.model_run.specs.contracts.callee.Callee as Callee
use Rattle.model_run.specs.contracts.context.Context as Context
use Rattle.model_run.specs.contracts.frame.Frame as Frame
use Rattle.model_run.specs.contracts.frame.FrameKind as FrameKind
use Rattle.cps_frames.specs.contracts.thread.ThreadState as ThreadState
use Rattle.cps_machine.specs.contracts.thread.MachineThread as MachineThread
use Rattle.cps_machine.specs.contracts.thread.Start as Start
use Rattle.member_turns.proofs.Sent.{binding_send, binding_sync, chain_send}

env_send : IsSend (Chain.the_row Binding.the_row)
env_send = chain_send Binding.the_row binding_send binding_sync

kind_send : IsSend FrameKind.the_row
kind_send = search (sendable, crosses) depth 60 fits 100000

values_send : IsSend (Sequence.the_row Value.the_row)
values_send = search (sendable, crosses) depth 40 fits 100000

frame_send : IsSend Frame.the_row
frame_send = declared_send Frame.the_type (kind_send, (search (sendable, crosses) depth 20, (search (sendable, crosses) depth 20, (env_send, (values_send, tt)))))

context_send : IsSend Context.the_row
context_send = search (sendable, crosses) depth 40 fits 100000

state_send : IsSend Frame.the_row → IsSend Context.the_row → IsSend ThreadState.the_row
state_send frame context = search (sendable, crosses) depth 40 fits 100000

callee_send : IsSend (Chain.the_row Binding.the_row) → IsSend Callee.the_row
callee_send env = search (sendable, crosses) depth 40 fits 100000

start_send : IsSend Callee.the_row → IsSend Start.the_row
start_send callee = variants_send Start.enum (tt, ((callee, tt), tt))

some_start_send : IsSend Start.the_row → IsSend (Option.the_row Start.the_row)
some_start_send start = search (sendable, crosses) depth 20

pub thread_send : IsSend MachineThread.the_row
thread_send = declared_send MachineThread.the_type (state_send frame_send context_send, (some_start_send (start_send (callee_send env_send)), (search (sendable, crosses) depth 20, (search (sendable, crosses) depth 20, tt))))
