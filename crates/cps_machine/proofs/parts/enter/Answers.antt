use Rattle.std.proofs.Common.{◌^◌, arith}
use Rattle.cps_machine.proofs.parts.enter.Goals as goal

pub returns-in-Inside : goal.returns-in-Inside
returns-in-Inside c = rw c.in-Inside.is (c.part.ensures c.args.state.now (2 ^ 66) (omega arith))

pub returns-in-On : goal.returns-in-On
returns-in-On c = rw c.in-On.is c.suffix.ensures

pub returns-in-Body : goal.returns-in-Body
returns-in-Body c = rw c.in-Body.is c.enter_call.ensures

pub returns-in-First : goal.returns-in-First
returns-in-First c = rw c.in-First.is c.start.ensures

pub returns-in-Turn : goal.returns-in-Turn
returns-in-Turn c = rw c.in-Turn.is c.turn.ensures

pub returns-in-Branched : goal.returns-in-Branched
returns-in-Branched c = rw c.in-Branched.is c.branched.ensures
