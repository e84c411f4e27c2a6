-- What a result of the machine's functions is as a move.
use Rattle.std.specs.Prelude.{Result, Ok, Err, Option, Some, None}
use Rattle.model_run.specs.declared.ending.Ending.TheVariants.{Thrown as Has_thrown}
use Rattle.value_view.specs.declared.refusal.OpRefusal.{OpRefusal}
use Rattle.value_view.specs.declared.refusal.OpRefusal.TheVariants as op
use Rattle.flow_graph.specs.declared.refusal.NodeRefusal.{NodeRefusal}
use Rattle.flow_graph.specs.declared.refusal.NodeRefusal.TheVariants as node
use Rattle.build_log.specs.declared.refusal.LogRefusal.{LogRefusal}
use Rattle.build_log.specs.declared.refusal.LogRefusal.TheVariants as log
use Rattle.model_values.specs.declared.limit.LimitKind.TheVariants.{FlowNodes, LogSize}
use Rattle.cps_frames.specs.declared.halt.Halt.{Halt}
use Rattle.cps_frames.specs.declared.halt.Halt.TheVariants.{Memory, Ends, Limit}
use Rattle.cps_frames.specs.declared.thread.Move.{Move}
use Rattle.cps_frames.specs.declared.thread.Move.TheVariants as move

abbrev pub halt_of : OpRefusal → Halt
halt_of op.Memory = Memory
halt_of (op.Thrown c) = Ends (Has_thrown c)
halt_of (op.Limit k) = Limit k

abbrev pub node_halt : NodeRefusal → Halt
node_halt node.Memory = Memory
node_halt node.NodeLimit = Limit FlowNodes

abbrev pub log_halt : LogRefusal → Halt
log_halt log.Memory = Memory
log_halt log.LogLimit = Limit LogSize

-- the move that a result is; want of memory is none
abbrev pub move_of : Result Move Halt → Option Move
move_of (Ok m) = Some m
move_of (Err (Ends e)) = Some (move.Ends e)
move_of (Err (Limit k)) = Some (move.Hits k)
move_of (Err Memory) = None
