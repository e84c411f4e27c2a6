use Rattle.std.proofs.Common.{refl}
use Rattle.durable_build.proofs.TakeLemmas.{empty_story}
use Rattle.durable_build.proofs.durable.DurableBuild.create.Goals as goal

pub returns-in-Ok-clause-same : goal.returns-in-Ok-clause-same
returns-in-Ok-clause-same g c = c.in-Ok.ensures.same

pub returns-in-Ok-clause-closed : goal.returns-in-Ok-clause-closed
returns-in-Ok-clause-closed g c = c.in-Ok.ensures.closed

pub returns-in-Ok-clause-sources : goal.returns-in-Ok-clause-sources
returns-in-Ok-clause-sources g c = (c.new.ensures, c.new-in-Ok.ensures)

pub returns-in-Ok-clause-created : goal.returns-in-Ok-clause-created
returns-in-Ok-clause-created g c = λ file told.
    let o = c.in-Ok.ensures.created file told in (
      o.0,
      o.1,
      record {
        holds = o.2;
        weighs = c.no_record.ensures.1;
        counted = refl;
        stands = (c.requires.unbegun, c.new.ensures, c.new-in-Ok.ensures);
        story = empty_story g.R.ScriptThread.stance c.args.build c.requires.stands;
      },
    )
