use Rattle.std.proofs.Common.{◌≡◌, ◌∙◌, [], ◌∷◌, ◌++◌, ap, refl, subst, append_assoc, Ok, Err}
use Rattle.model_run.specs.declared.taken.Taken.{Taken}
use Rattle.model_run.specs.declared.taken.Taken.TheVariants.{NotOpen, WrongPlace, Finished}
use Rattle.locked_build.specs.Grants.{noted}
use Rattle.locked_build.specs.Hearing.{noted_line}
use Rattle.locked_build.specs.Steps.{OneSays}
use Rattle.locked_build.specs.Histories.{kept_fault}
use Rattle.locked_build.specs.declared.ask.Entry.TheVariants.{Took, Line}
use Rattle.locked_build.proofs.HistoryLaws.{kept_fault-append}
use Rattle.locked_build.proofs.GrantLaws.{kept_behind, failed_is, not_open, finished, wrong}
use Rattle.locked_build.proofs.HearLaws.{failed_says, passed_says}
use Rattle.locked_build.proofs.hearing.decide.Goals as goal

pub grant_all-requires-clause-none : goal.grant_all-requires-clause-none
grant_all-requires-clause-none g c =
    let noted_is = subst (λ (t : Taken). c.decide_one.new.history.items ≡ c.args.history.now.items ++ noted_line c.args.line c.args.event (Ok t)) c.in-Ok-Accepted.field-0-is c.in-Ok-Accepted.ensures.noted in
    ap kept_fault noted_is ∙ kept_fault-append c.args.history.now.items (Line c.args.line ∷ Took c.args.event ∷ []) c.requires.none

pub returns-in-Ok-Accepted-clause-says : goal.returns-in-Ok-Accepted-clause-says
returns-in-Ok-Accepted-clause-says g c =
    let noted_is = subst (λ (t : Taken). c.decide_one.new.history.items ≡ c.args.history.now.items ++ noted_line c.args.line c.args.event (Ok t)) c.in-Ok-Accepted.field-0-is c.in-Ok-Accepted.ensures.noted in
    let says = subst (λ (t : Taken). OneSays g.R.ScriptThread.stance c.args.durable.now c.decide_one.new.durable c.args.event (Ok t)) c.in-Ok-Accepted.field-0-is c.in-Ok-Accepted.ensures.says in
    let more = c.grant_all.ensures.grants in (
      Line c.args.line ∷ Took c.args.event ∷ more.0,
      more.1 ∙ ap (λ xs. xs ++ more.0) noted_is ∙ append_assoc c.args.history.now.items (Line c.args.line ∷ Took c.args.event ∷ []) more.0,
      (c.args.event, Took c.args.event ∷ more.0, c.requires.decides, (c.decide_one.new.durable.build, more.0, says.next, more.2, refl), refl),
    )

pub returns-in-Ok-NotOpen-clause-says : goal.returns-in-Ok-NotOpen-clause-says
returns-in-Ok-NotOpen-clause-says g c =
    let noted_is = subst (λ (t : Taken). c.decide_one.new.history.items ≡ c.args.history.now.items ++ noted_line c.args.line c.args.event (Ok t)) c.in-Ok-NotOpen.field-0-is c.in-Ok-NotOpen.ensures.noted in
    let says = subst (λ (t : Taken). OneSays g.R.ScriptThread.stance c.args.durable.now c.decide_one.new.durable c.args.event (Ok t)) c.in-Ok-NotOpen.field-0-is c.in-Ok-NotOpen.ensures.says in
    (Line c.args.line ∷ [], noted_is, passed_says g.R.ScriptThread.stance c.args.durable.now.build c.args.line c.args.request c.args.event c.requires.decides NotOpen says.0 not_open)

pub returns-in-Ok-WrongPlace-clause-says : goal.returns-in-Ok-WrongPlace-clause-says
returns-in-Ok-WrongPlace-clause-says g c =
    let noted_is = subst (λ (t : Taken). c.decide_one.new.history.items ≡ c.args.history.now.items ++ noted_line c.args.line c.args.event (Ok t)) c.in-Ok-WrongPlace.field-0-is c.in-Ok-WrongPlace.ensures.noted in
    let says = subst (λ (t : Taken). OneSays g.R.ScriptThread.stance c.args.durable.now c.decide_one.new.durable c.args.event (Ok t)) c.in-Ok-WrongPlace.field-0-is c.in-Ok-WrongPlace.ensures.says in
    (Line c.args.line ∷ [], noted_is, passed_says g.R.ScriptThread.stance c.args.durable.now.build c.args.line c.args.request c.args.event c.requires.decides (WrongPlace _) says.0 (wrong _))

pub returns-in-Ok-Finished-clause-says : goal.returns-in-Ok-Finished-clause-says
returns-in-Ok-Finished-clause-says g c =
    let noted_is = subst (λ (t : Taken). c.decide_one.new.history.items ≡ c.args.history.now.items ++ noted_line c.args.line c.args.event (Ok t)) c.in-Ok-Finished.field-0-is c.in-Ok-Finished.ensures.noted in
    let says = subst (λ (t : Taken). OneSays g.R.ScriptThread.stance c.args.durable.now c.decide_one.new.durable c.args.event (Ok t)) c.in-Ok-Finished.field-0-is c.in-Ok-Finished.ensures.says in
    (Line c.args.line ∷ [], noted_is, passed_says g.R.ScriptThread.stance c.args.durable.now.build c.args.line c.args.request c.args.event c.requires.decides Finished says.0 finished)

pub returns-in-Err-clause-says : goal.returns-in-Err-clause-says
returns-in-Err-clause-says g c =
    let t = c.in-Err.ensures in
    (noted c.args.event (Err c.in-Err.fault), t.noted, failed_says g.R.ScriptThread.stance c.args.durable.now.build c.args.line c.args.request c.args.event c.requires.decides c.in-Err.fault t.says)

pub returns-in-Err-clause-room : goal.returns-in-Err-clause-room
returns-in-Err-clause-room g c kept =
    let t = c.in-Err.ensures in
    absurd (kept_behind c.args.history.now.items c.decide_one.new.history.items (noted c.args.event (Err c.in-Err.fault)) c.in-Err.fault c.requires.none t.noted (failed_is g.R.ScriptThread.stance c.args.durable.now.build c.args.event c.in-Err.fault t.says) kept)

pub returns-in-Err-clause-settled : goal.returns-in-Err-clause-settled
returns-in-Err-clause-settled g c kept =
    let t = c.in-Err.ensures in
    absurd (kept_behind c.args.history.now.items c.decide_one.new.history.items (noted c.args.event (Err c.in-Err.fault)) c.in-Err.fault c.requires.none t.noted (failed_is g.R.ScriptThread.stance c.args.durable.now.build c.args.event c.in-Err.fault t.says) kept)
