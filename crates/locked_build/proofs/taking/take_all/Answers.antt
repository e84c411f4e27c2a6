use Rattle.std.proofs.Common.{◌≡◌, ◌∙◌, [], ◌∷◌, ◌++◌, ap, refl, subst, append_assoc, Ok, Err}
use Rattle.model_run.specs.declared.taken.Taken.{Taken}
use Rattle.locked_build.specs.Grants.{noted}
use Rattle.locked_build.specs.Steps.{OneSays}
use Rattle.locked_build.specs.Histories.{kept_fault}
use Rattle.locked_build.specs.declared.ask.Entry.TheVariants.{Took}
use Rattle.locked_build.proofs.HistoryLaws.{kept_fault-append}
use Rattle.locked_build.proofs.GrantLaws.{kept_behind, failed_is}
use Rattle.locked_build.proofs.taking.take_all.Goals as goal

pub grant_all-requires-clause-none : goal.grant_all-requires-clause-none
grant_all-requires-clause-none g c =
    let noted_is = subst (λ (t : Taken). c.take_one.new.history.items ≡ c.args.history.now.items ++ noted c.args.event (Ok t)) c.in-Ok-Accepted.field-0-is c.in-Ok-Accepted.ensures.noted in
    ap kept_fault noted_is ∙ kept_fault-append c.args.history.now.items (Took c.args.event ∷ []) c.requires.none

pub returns-in-Ok-Accepted-clause-says : goal.returns-in-Ok-Accepted-clause-says
returns-in-Ok-Accepted-clause-says g c =
    let noted_is = subst (λ (t : Taken). c.take_one.new.history.items ≡ c.args.history.now.items ++ noted c.args.event (Ok t)) c.in-Ok-Accepted.field-0-is c.in-Ok-Accepted.ensures.noted in
    let says = subst (λ (t : Taken). OneSays g.R.ScriptThread.stance c.args.durable.now c.take_one.new.durable c.args.event (Ok t)) c.in-Ok-Accepted.field-0-is c.in-Ok-Accepted.ensures.says in
    let more = c.grant_all.ensures.grants in
    (Took c.args.event ∷ more.0, more.1 ∙ ap (λ xs. xs ++ more.0) noted_is ∙ append_assoc c.args.history.now.items (Took c.args.event ∷ []) more.0, (c.take_one.new.durable.build, more.0, says.next, more.2, refl))

pub returns-in-Err-clause-room : goal.returns-in-Err-clause-room
returns-in-Err-clause-room g c kept =
    let t = c.in-Err.ensures in
    absurd (kept_behind c.args.history.now.items c.take_one.new.history.items (noted c.args.event (Err c.in-Err.fault)) c.in-Err.fault c.requires.none t.noted (failed_is g.R.ScriptThread.stance c.args.durable.now.build c.args.event c.in-Err.fault t.says) kept)

pub returns-in-Err-clause-settled : goal.returns-in-Err-clause-settled
returns-in-Err-clause-settled g c kept =
    let t = c.in-Err.ensures in
    absurd (kept_behind c.args.history.now.items c.take_one.new.history.items (noted c.args.event (Err c.in-Err.fault)) c.in-Err.fault c.requires.none t.noted (failed_is g.R.ScriptThread.stance c.args.durable.now.build c.args.event c.in-Err.fault t.says) kept)
