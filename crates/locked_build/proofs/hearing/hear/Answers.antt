use Rattle.std.proofs.Common.{ℕ, Option, None, [], ◌∷◌, refl, subst}
use Rattle.std.specs.Prelude.{MatchOption}
use Rattle.model_run.specs.declared.event.Event.{Event}
use Rattle.journal_core.specs.declared.faults.TakeFault.TheVariants.{Memory}
use Rattle.locked_build.specs.declared.ask.Entry.TheVariants.{Failed}
use Rattle.locked_build.specs.Hearing.{Decides, IsSkipped}
use Rattle.locked_build.proofs.FactLaws.{facts_wanting}
use Rattle.locked_build.proofs.GrantLaws.{kept_behind}
use Rattle.locked_build.proofs.HearLaws.{skipped_says, skipped_facts, skip_kept}
use Rattle.locked_build.proofs.hearing.hear.Goals as goal

pub returns-in-Ok-None-clause-says : goal.returns-in-Ok-None-clause-says
returns-in-Ok-None-clause-says g c =
    let b = c.build.result.now in
    let line = c.as_slice.result.now in
    let found : IsSkipped b line = subst (λ (o : Option (ℕ × Event)). MatchOption o (IsSkipped b line) (λ decision. Decides b line decision.0 decision.1)) c.in-Ok-None.field-0-is c.in-Ok-None.ensures in
    let skipped = subst (λ xs. IsSkipped c.args.durable.now.build xs) c.as_slice.ensures (subst (λ build. IsSkipped build line) c.build.ensures.is found) in
    skipped_says g.R.ScriptThread.stance c.args.durable.now.build c.args.line c.skip.result c.args.history.now.items c.skip.new.history.items skipped c.skip.ensures.says

pub returns-in-Ok-None-clause-room : goal.returns-in-Ok-None-clause-room
returns-in-Ok-None-clause-room g c kept = skip_kept c.args.line c.skip.result c.args.history.now.items c.skip.new.history.items _ c.requires.none c.skip.ensures.says c.skip.ensures.room kept

pub returns-in-Ok-None-clause-facts : goal.returns-in-Ok-None-clause-facts
returns-in-Ok-None-clause-facts g c opening k =
    let D = g.D.Disk in
    skipped_facts D g.R.ScriptThread.stance opening c.args.durable.now c.args.history.now.items c.requires.none k c.args.line c.skip.result c.skip.new.history.items c.skip.ensures.says

pub returns-in-Err-clause-room : goal.returns-in-Err-clause-room
returns-in-Err-clause-room g c kept = absurd (kept_behind c.args.history.now.items c.note_want.new.history.items (Failed Memory None ∷ []) Memory c.requires.none c.note_want.ensures refl kept)

pub returns-in-Err-clause-facts : goal.returns-in-Err-clause-facts
returns-in-Err-clause-facts g c opening k =
    let D = g.D.Disk in
    let e = facts_wanting D g.R.ScriptThread.stance opening c.args.durable.now c.args.history.now.items c.requires.none k in
    rw (c.note_want.ensures) e
