use Rattle.std.proofs.Common.{◌∙◌, ◌<◌, ◌+◌, ◌∷◌, List, arith, ap, subst}
use Rattle.journal_core.specs.declared.record.Record.{Record}
use Rattle.journal_core.specs.State.{Holds}
use Rattle.journal_core.proofs.MomentLemmas.{only_reads_then}
use Rattle.durable_build.specs.Opening.{LastFound}
use Rattle.durable_build.proofs.CountLemmas.{still_holds}
use Rattle.durable_build.proofs.LoadLemmas.{passes_on}
use Rattle.durable_build.proofs.ReadLemmas.{all_at, behind_whole, last_of_all, not_found}
use Rattle.durable_build.proofs.load.read_last.Goals as goal

pub returns-in_err-k-clause-found : goal.returns-in_err-k-clause-found
returns-in_err-k-clause-found g c = λ p ps whole holds are.
    let f = c.in_err-k.field-0.0 in
    passes_on c.from_residual.result f (LastFound (p ∷ ps)) c.from_residual.ensures.1 (not_found (p ∷ ps) f c.in_err-k.ensures.fault)

pub read_from-requires-clause-whole : goal.read_from-requires-clause-whole
read_from-requires-clause-whole g c =
    let within = all_at (λ (e : Record). e.at + 5 + e.len < c.args.journal.now.len) c.args.entries.now c.in_ok-k.k c.entry_at-whole.result c.requires.within c.entry_at-whole.ensures in
    omega (arith, within, c.last_whole.ensures.same.0)

pub returns-clause-found : goal.returns-clause-found
returns-clause-found g c = λ p ps whole holds are.
    let D = g.D.Disk in
    let later = still_holds D c.args.journal.now c.last_whole.new.journal (p ∷ ps) c.last_whole.ensures.quiet c.last_whole.ensures.same.0 holds in
    last_of_all p ps c.args.entries.now c.in_ok-k.k c.entry_at-whole.result c.read_from.result whole are c.entry_at-whole.ensures (c.in_ok-k.ensures.found (p ∷ ps) holds are)
    (λ front payloads split entries. c.read_from.ensures.found front payloads (subst (Holds D c.last_whole.new.journal) split later)
    (ap (λ (es : List Record). c.entry_at-whole.result ∷ es) (behind_whole c.args.entries.now c.in_ok-k.k) ∙ entries))

pub returns-clause-quiet : goal.returns-clause-quiet
returns-clause-quiet g c =
    let D = g.D.Disk in
    only_reads_then D c.args.journal.now.disk c.last_whole.new.journal.disk c.read_from.new.journal.disk c.last_whole.ensures.quiet c.read_from.ensures.quiet
