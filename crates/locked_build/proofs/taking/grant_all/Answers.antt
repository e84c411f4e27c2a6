use Rattle.std.proofs.Common.{◌∙◌, [], ◌∷◌, Ok, ap, subst, sym, append-nil}
use Rattle.model_run.specs.declared.event.Event.TheVariants.{Granted}
use Rattle.locked_build.specs.declared.ask.Entry.TheVariants.{Took}
use Rattle.locked_build.specs.Histories.{kept_fault}
use Rattle.locked_build.specs.Grants.{none_due}
use Rattle.locked_build.specs.Steps.{GrantSays}
use Rattle.locked_build.proofs.HistoryLaws.{kept_fault-append}
use Rattle.locked_build.proofs.GrantLaws.{more_granted, more_done, kept_behind}
use Rattle.locked_build.proofs.taking.grant_all.Goals as goal

pub loop-preserved : goal.loop-preserved
loop-preserved g c =
    let inv = c.loop.invariant in
    let says = subst (λ b. GrantSays g.R.ScriptThread.stance c.loop.durable c.grant_one.new.durable c.loop.history.items c.grant_one.new.history.items (Ok b)) c.in-Ok-true.field-0-test c.in-Ok-true.ensures.says in
    let none_now = ap kept_fault says.4 ∙ kept_fault-append c.loop.history.items (Took (Granted says.0 says.1) ∷ []) inv.none in
    record {
      running = says.3.running;
      begun = says.3.begun;
      none = none_now;
      room = c.in-Ok-true.ensures.room;
      onward = more_granted g.R.ScriptThread.stance c.args.durable.now.build c.loop.durable.build c.args.history.now.items c.loop.history.items inv.onward.0 inv.onward.1 inv.onward.2
          c.grant_one.new.history.items c.grant_one.new.durable.build says.0 says.1 says.2 says.3.next says.4;
      facts = λ opening k. c.in-Ok-true.ensures.facts opening (inv.facts opening k);
    }

pub returns-in_default-clause-grants : goal.returns-in_default-clause-grants
returns-in_default-clause-grants g c =
    let inv = c.loop.invariant in
    let says = subst (λ b. GrantSays g.R.ScriptThread.stance c.loop.durable c.grant_one.new.durable c.loop.history.items c.grant_one.new.history.items (Ok b)) c.in_default.field-0-test c.in_default.ensures.says in
    more_done g.R.ScriptThread.stance c.args.durable.now.build c.loop.durable.build c.args.history.now.items c.loop.history.items inv.onward.0 inv.onward.1 inv.onward.2
    c.grant_one.new.history.items [] (none_due says.0) (says.2 ∙ sym (append-nil c.loop.history.items))

pub returns-in_default-2-clause-room : goal.returns-in_default-2-clause-room
returns-in_default-2-clause-room g c kept =
    let says = c.in_default.ensures.says in
    absurd (kept_behind c.loop.history.items c.grant_one.new.history.items says.0 _ c.loop.invariant.none says.2 says.3 kept)

pub returns-in_default-2-clause-settled : goal.returns-in_default-2-clause-settled
returns-in_default-2-clause-settled g c kept =
    let says = c.in_default.ensures.says in
    absurd (kept_behind c.loop.history.items c.grant_one.new.history.items says.0 _ c.loop.invariant.none says.2 says.3 kept)
