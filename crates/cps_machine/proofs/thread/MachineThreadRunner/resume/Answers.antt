use Rattle.std.proofs.Common.{true}
use Rattle.cps_machine.specs.Threads.{IsTurn}
use Rattle.cps_machine.specs.declared.thread.MachineThread.{MachineThread}
use Rattle.cps_frames.specs.Standing.{standing}
use Rattle.cps_machine.proofs.ResumeLaws.{first_runs, turn_begins, turn_branch, turn_ends, turn_keeps, turn_lowers, turn_made}
use Rattle.cps_machine.proofs.StanceLaws.{turn_is}
use Rattle.script_thread.proofs.Stays.{stays_less}
use Rattle.cps_machine.proofs.thread.MachineThreadRunner.resume.Goals as goal

pub returns-clause-keeps : goal.returns-clause-keeps
returns-clause-keeps c =
    turn_keeps c.args.self.now _ c.args.shared.now c.run.new.shared c.args.answer c.in_ok-stop.stop
    (turn_made c.args.self.now c.first_move-first.new.self c.args.shared.now c.run.new.shared c.args.answer _ c.in_ok-stopped.stopped c.run.new.state c.in_ok-stop.stop c.first_move-first.ensures.begun c.first_move-first.ensures.first c.in_ok-stopped.ensures.stops c.in_ok-stop.ensures c.run.new.low (stays_less c.first_move-first.new.self.low c.lowest-self.result c.first_move-first.new.self.state.stack.items c.run.new.low c.run.new.state.stack.items c.lowest-self.ensures.0 c.in_ok-stopped.ensures.stays))

pub returns-clause-turned : goal.returns-clause-turned
returns-clause-turned c =
    let after : MachineThread = record c.first_move-first.new.self { state = c.run.new.state; low = c.run.new.low; touched = true } in
    let turn : IsTurn c.args.self.now c.args.shared.now c.args.answer c.in_ok-stop.stop after c.run.new.shared =
    turn_made c.args.self.now c.first_move-first.new.self c.args.shared.now c.run.new.shared c.args.answer _ c.in_ok-stopped.stopped c.run.new.state c.in_ok-stop.stop c.first_move-first.ensures.begun c.first_move-first.ensures.first c.in_ok-stopped.ensures.stops c.in_ok-stop.ensures c.run.new.low (stays_less c.first_move-first.new.self.low c.lowest-self.result c.first_move-first.new.self.state.stack.items c.run.new.low c.run.new.state.stack.items c.lowest-self.ensures.0 c.in_ok-stopped.ensures.stays) in
    (turn, turn_is c.args.self.now after c.args.shared.now c.run.new.shared c.args.answer c.in_ok-stop.stop c.requires.ready turn)

pub returns-clause-lowers : goal.returns-clause-lowers
returns-clause-lowers c =
    turn_lowers c.args.self.now _ c.args.shared.now c.run.new.shared c.args.answer c.in_ok-stop.stop c.requires.ready
    (turn_made c.args.self.now c.first_move-first.new.self c.args.shared.now c.run.new.shared c.args.answer _ c.in_ok-stopped.stopped c.run.new.state c.in_ok-stop.stop c.first_move-first.ensures.begun c.first_move-first.ensures.first c.in_ok-stopped.ensures.stops c.in_ok-stop.ensures c.run.new.low (stays_less c.first_move-first.new.self.low c.lowest-self.result c.first_move-first.new.self.state.stack.items c.run.new.low c.run.new.state.stack.items c.lowest-self.ensures.0 c.in_ok-stopped.ensures.stays))

pub returns-clause-begins : goal.returns-clause-begins
returns-clause-begins c =
    turn_begins c.args.self.now _ c.args.shared.now c.run.new.shared c.args.answer c.in_ok-stop.stop
    (turn_made c.args.self.now c.first_move-first.new.self c.args.shared.now c.run.new.shared c.args.answer _ c.in_ok-stopped.stopped c.run.new.state c.in_ok-stop.stop c.first_move-first.ensures.begun c.first_move-first.ensures.first c.in_ok-stopped.ensures.stops c.in_ok-stop.ensures c.run.new.low (stays_less c.first_move-first.new.self.low c.lowest-self.result c.first_move-first.new.self.state.stack.items c.run.new.low c.run.new.state.stack.items c.lowest-self.ensures.0 c.in_ok-stopped.ensures.stays))

pub returns-clause-branch : goal.returns-clause-branch
returns-clause-branch c =
    turn_branch c.args.self.now _ c.args.shared.now c.run.new.shared c.args.answer c.in_ok-stop.stop c.requires.ready
    (turn_made c.args.self.now c.first_move-first.new.self c.args.shared.now c.run.new.shared c.args.answer _ c.in_ok-stopped.stopped c.run.new.state c.in_ok-stop.stop c.first_move-first.ensures.begun c.first_move-first.ensures.first c.in_ok-stopped.ensures.stops c.in_ok-stop.ensures c.run.new.low (stays_less c.first_move-first.new.self.low c.lowest-self.result c.first_move-first.new.self.state.stack.items c.run.new.low c.run.new.state.stack.items c.lowest-self.ensures.0 c.in_ok-stopped.ensures.stays))

pub run-requires-clause-may : goal.run-requires-clause-may
run-requires-clause-may c = first_runs c.args.self.now c.first_move-first.new.self c.args.shared.now c.args.answer c.first_move-first.result c.requires.ready c.first_move-first.ensures.begun c.first_move-first.ensures.first

pub stop-requires : goal.stop-requires
stop-requires c =
    turn_ends c.args.self.now c.first_move-first.new.self c.args.shared.now c.args.answer _ c.in_ok-stopped.stopped (standing c.run.new.shared c.run.new.state) c.requires.ready c.first_move-first.ensures.begun c.first_move-first.ensures.first c.in_ok-stopped.ensures.stops
