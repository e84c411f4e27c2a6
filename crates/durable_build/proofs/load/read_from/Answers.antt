use Rattle.std.proofs.Common.{◌≡◌, ◌∙◌, ◌∷◌, ◌++◌, ◌+◌, ℕ, suc, arith, refl, subst}
use Rattle.std.proofs.lemmas.Option.{slice_get-get_or}
use Rattle.journal_core.proofs.MomentLemmas.{only_reads_then}
use Rattle.durable_build.specs.Opening.{FoundFrom, ReadUp}
use Rattle.durable_build.proofs.CountLemmas.{still_holds}
use Rattle.durable_build.proofs.LoadLemmas.{passes_on}
use Rattle.durable_build.proofs.ReadLemmas.{all_read, first_read, first_refused, next_read, next_refused}
use Rattle.durable_build.proofs.load.read_from.Goals as goal

pub returns-in_err-read-clause-found : goal.returns-in_err-read-clause-found
returns-in_err-read-clause-found g c = λ front payloads holds are.
    let f = c.in_err-read.field-0.0 in
    passes_on c.from_residual.result f (FoundFrom front payloads) c.from_residual.ensures.1
    (first_refused front payloads (c.args.whole ∷ c.args.behind.now) are c.args.whole refl c.no_weights.result c.no_weights.ensures f (λ k p. c.in_err-read.ensures.found (front ++ payloads) k p holds))

pub loop-entry-init : goal.loop-entry-init
loop-entry-init g c = record {
  quiet = c.read_next.ensures.quiet;
  len = c.read_next.ensures.same.0;
  stopped = c.read_next.ensures.same.1;
  faults = c.in_ok-read.ensures.cause.calm (λ is. cc);
  up = λ front payloads holds are.
      first_read front payloads (c.args.whole ∷ c.args.behind.now) are c.args.whole refl c.no_weights.result c.no_weights.ensures c.in_ok-read.read (λ k p. c.in_ok-read.ensures.found (front ++ payloads) k p holds);
}

pub returns-in_err-read-2-clause-found : goal.returns-in_err-read-2-clause-found
returns-in_err-read-2-clause-found g c = λ front payloads holds are.
    let D = g.D.Disk in
    let inv = c.loop-entry.invariant in
    let f = c.in_err-read-2.field-0.0 in
    let later = still_holds D c.args.journal.now c.loop-entry.journal (front ++ payloads) inv.quiet inv.len holds in
    passes_on c.from_residual-in_err-read-2.result f (FoundFrom front payloads) c.from_residual-in_err-read-2.ensures.1
    (next_refused front payloads (c.args.whole ∷ c.args.behind.now) are c.loop-entry.entry-index _ (slice_get-get_or c.args.behind.now c.loop-entry.entry-index _ (omega arith)) c.loop-entry.read (inv.up front payloads holds are) f
    (λ k p. c.in_err-read-2.ensures.found (front ++ payloads) k p later))

pub returns-in_err-read-2-clause-quiet : goal.returns-in_err-read-2-clause-quiet
returns-in_err-read-2-clause-quiet g c =
    let D = g.D.Disk in
    only_reads_then D c.args.journal.now.disk c.loop-entry.journal.disk c.read_next-in-loop-entry.new.journal.disk c.loop-entry.invariant.quiet c.read_next-in-loop-entry.ensures.quiet

pub loop-entry-preserved : goal.loop-entry-preserved
loop-entry-preserved g c =
    let D = g.D.Disk in
    let inv = c.loop-entry.invariant in
    let i = c.loop-entry.entry-index in
    record {
      quiet = only_reads_then D c.args.journal.now.disk c.loop-entry.journal.disk c.read_next-in-loop-entry.new.journal.disk inv.quiet c.read_next-in-loop-entry.ensures.quiet;
      len = c.read_next-in-loop-entry.ensures.same.0 ∙ inv.len;
      stopped = c.read_next-in-loop-entry.ensures.same.1 ∙ inv.stopped;
      faults = c.in_ok-read-2.ensures.cause.calm (λ is. cc) ∙ inv.faults;
      up = λ front payloads holds are.
          let later = still_holds D c.args.journal.now c.loop-entry.journal (front ++ payloads) inv.quiet inv.len holds in
          let more : suc i ≡ i + 1 = omega arith in
          subst (λ (n : ℕ). ReadUp payloads n c.in_ok-read-2.read) more
          (next_read front payloads (c.args.whole ∷ c.args.behind.now) are i _ (slice_get-get_or c.args.behind.now i _ (omega arith)) c.loop-entry.read (inv.up front payloads holds are) c.in_ok-read-2.read
          (λ k p. c.in_ok-read-2.ensures.found (front ++ payloads) k p later));
    }

pub returns-clause-found : goal.returns-clause-found
returns-clause-found g c = λ front payloads holds are.
    all_read front payloads (c.args.whole ∷ c.args.behind.now) are c.loop-entry.entry-index c.loop-entry.read (omega arith) (c.loop-entry.invariant.up front payloads holds are)
