use Rattle.locked_build.proofs.FactLaws.{facts_one, facts_wanting}
use Rattle.locked_build.proofs.taking.take_one.Goals as goal

pub returns-then-is_err-clause-facts : goal.returns-then-is_err-clause-facts
returns-then-is_err-clause-facts g c opening k =
    let D = g.D.Disk in
    let e = facts_wanting D g.R.ScriptThread.stance opening c.args.durable.now c.args.history.now.items c.requires.none k in
    rw (c.note.ensures.noted, c.reserve.ensures.items) e

pub returns-clause-facts : goal.returns-clause-facts
returns-clause-facts g c opening k =
    let D = g.D.Disk in
    let t = c.take-answer.ensures in
    let e = facts_one D g.R.ScriptThread.stance opening c.args.durable.now c.args.history.now.items c.requires.none k c.take-answer.new.self t.cause.never_falls
    (let met = g.met.D.Disk in record { told_end = met.told_end; told_image = met.told_image; counts_now = met.counts_now; only_now = met.only_now }) c.args.event c.take-answer.result c.requires.running c.requires.in_order t.answers t.leaves t.size t.whole t.setting t.stands t.keeps t.cause.failed t.cause.calm in
    rw (c.note-2.ensures.noted, c.reserve.ensures.items) e
