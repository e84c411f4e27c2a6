use Rattle.std.proofs.Common.{refl, ◌∷◌, []}
use Rattle.journal_core.specs.declared.faults.TakeFault.TheVariants.{Memory}
use Rattle.std.specs.Prelude.{None}
use Rattle.locked_build.specs.declared.ask.Entry.TheVariants.{Failed}
use Rattle.locked_build.specs.Grants.{not_found}
use Rattle.locked_build.proofs.FactLaws.{facts_wanting}
use Rattle.locked_build.proofs.taking.grant_one.Goals as goal

pub returns-in-Err-clause-says : goal.returns-in-Err-clause-says
returns-in-Err-clause-says g c = (Failed Memory None ∷ [], not_found, c.note_want.ensures, refl)

pub returns-in-Err-clause-facts : goal.returns-in-Err-clause-facts
returns-in-Err-clause-facts g c opening k =
    let D = g.D.Disk in
    let e = facts_wanting D g.R.ScriptThread.stance opening c.args.durable.now c.args.history.now.items c.requires.none k in
    rw (c.note_want.ensures) e
