use Rattle.std.proofs.Common.{inr}
use Rattle.locked_build.proofs.FactLaws.{facts_wanting}
use Rattle.locked_build.proofs.HearLaws.{heard_one}
use Rattle.locked_build.proofs.hearing.decide_one.Goals as goal

pub returns-then-is_err-clause-facts : goal.returns-then-is_err-clause-facts
returns-then-is_err-clause-facts g c opening k =
    let D = g.D.Disk in
    let e = facts_wanting D g.R.ScriptThread.stance opening c.args.durable.now c.args.history.now.items c.requires.none k in
    rw (c.note.ensures.noted, c.reserve.ensures.items) e

pub returns-clause-facts : goal.returns-clause-facts
returns-clause-facts g c opening k =
    let D = g.D.Disk in
    let t = c.take-answer.ensures in
    let e = heard_one D g.R.ScriptThread.stance opening c.args.durable.now c.args.history.now.items c.requires.none k c.args.line c.take-answer.new.self t.cause.never_falls
    (let met = g.met.D.Disk in record { told_end = met.told_end; told_image = met.told_image; counts_now = met.counts_now; only_now = met.only_now }) c.args.event c.take-answer.result c.requires.running (inr c.requires.settled) t.answers t.leaves t.size t.whole t.setting t.stands t.keeps t.cause.failed t.cause.calm in
    rw (c.note_line.ensures.noted, c.reserve.ensures.items) e
