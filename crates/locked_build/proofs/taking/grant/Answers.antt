use Rattle.locked_build.proofs.GrantLaws.{grant_failed}
use Rattle.locked_build.proofs.taking.grant.Goals as goal

pub returns-in-Err-clause-says : goal.returns-in-Err-clause-says
returns-in-Err-clause-says g c =
    let t = c.in-Err.ensures in
    grant_failed g.R.ScriptThread.stance c.args.durable.now c.take_one.new.durable c.args.history.now.items c.take_one.new.history.items c.args.request c.args.executor c.requires.due c.in-Err.fault t.says t.noted
