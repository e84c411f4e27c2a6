use Rattle.std.proofs.Common.{◌∙◌, ◌<◌, ◌+◌, ℕ, ap, subst, sym}
use Rattle.std.specs.List.{All}
use Rattle.journal_core.specs.declared.record.Record.{Record}
use Rattle.journal_core.specs.Answers.{entries_of}
use Rattle.journal_core.specs.State.{Holds}
use Rattle.journal_core.proofs.MomentLemmas.{only_reads_then}
use Rattle.durable_build.specs.Opening.{LoadFinds}
use Rattle.durable_build.proofs.CountLemmas.{still_holds}
use Rattle.durable_build.proofs.LoadLemmas.{load_done, load_refused_first, load_refused_last, load_refused_read, load_without_memory, passes_on}
use Rattle.durable_build.proofs.load.load.Goals as goal

pub returns-in_err-script-clause-found : goal.returns-in_err-script-clause-found
returns-in_err-script-clause-found g c = λ ps holds are.
    let stance = g.R.ScriptThread.stance in
    let f = c.in_err-script.field-0.0 in
    passes_on c.from_residual.result f (LoadFinds stance ps) c.from_residual.ensures.1
    (load_refused_first stance ps c.args.entries.now c.entry_at-first.result f are c.requires.some c.entry_at-first.ensures (λ k p. c.in_err-script.ensures.found ps k p holds))

pub read_last-requires-clause-within : goal.read_last-requires-clause-within
read_last-requires-clause-within g c = subst (λ (n : ℕ). All (λ (e : Record). e.at + 5 + e.len < n) c.args.entries.now) (sym c.read_opening.ensures.same.0) c.requires.within

pub returns-in_err-image-clause-found : goal.returns-in_err-image-clause-found
returns-in_err-image-clause-found g c = λ ps holds are.
    let D = g.D.Disk in
    let stance = g.R.ScriptThread.stance in
    let f = c.in_err-image.field-0.0 in
    let later = still_holds D c.args.journal.now c.read_opening.new.journal ps c.read_opening.ensures.quiet c.read_opening.ensures.same.0 holds in
    passes_on c.from_residual-in_err-image.result f (LoadFinds stance ps) c.from_residual-in_err-image.ensures.1
    (load_refused_read stance c.args.entries.now c.entry_at-first.result c.entry_at-last.result c.in_ok-script.field-0 c.requires.some c.entry_at-first.ensures c.entry_at-last.ensures ps f are
    (λ k p. c.in_ok-script.ensures.found ps k p holds)
    (λ p qs same whole. c.in_err-image.ensures.found p qs whole (subst (Holds D c.read_opening.new.journal) same later) (are ∙ ap (entries_of 0) same)))

pub returns-in_err-build-clause-found : goal.returns-in_err-build-clause-found
returns-in_err-build-clause-found g c = λ ps holds are.
    let D = g.D.Disk in
    let stance = g.R.ScriptThread.stance in
    let f = c.in_err-build.field-0.0 in
    let later = still_holds D c.args.journal.now c.read_opening.new.journal ps c.read_opening.ensures.quiet c.read_opening.ensures.same.0 holds in
    passes_on c.from_residual-in_err-build.result f (LoadFinds stance ps) c.from_residual-in_err-build.ensures.1
    (load_refused_last stance c.args.entries.now c.entry_at-first.result c.entry_at-last.result c.in_ok-script.field-0 c.requires.some c.entry_at-first.ensures c.entry_at-last.ensures c.in_ok-image.field-0 ps f are
    (λ k p. c.in_ok-script.ensures.found ps k p holds)
    (λ p qs same whole. c.in_ok-image.ensures.found p qs whole (subst (Holds D c.read_opening.new.journal) same later) (are ∙ ap (entries_of 0) same))
    c.in_err-build.ensures.goes_on)

pub returns-in_err-last-clause-found : goal.returns-in_err-last-clause-found
returns-in_err-last-clause-found g c = λ ps holds are.
    let stance = g.R.ScriptThread.stance in
    let f = c.in_err-last.field-0.0 in
    passes_on c.from_residual-in_err-last.result f (LoadFinds stance ps) c.from_residual-in_err-last.ensures.1
    (load_without_memory stance ps f c.in_err-last.ensures.fault)

pub returns-clause-found : goal.returns-clause-found
returns-clause-found g c = λ ps holds are.
    let D = g.D.Disk in
    let stance = g.R.ScriptThread.stance in
    let later = still_holds D c.args.journal.now c.read_opening.new.journal ps c.read_opening.ensures.quiet c.read_opening.ensures.same.0 holds in
    load_done stance c.args.entries.now c.entry_at-first.result c.entry_at-last.result c.in_ok-script.field-0 c.requires.some c.entry_at-first.ensures c.entry_at-last.ensures c.in_ok-image.field-0 ps c.in_ok-build.build c.entry_at-last.result.at c.in_ok-last.last.weights are
    (λ k p. c.in_ok-script.ensures.found ps k p holds)
    (λ p qs same whole. c.in_ok-image.ensures.found p qs whole (subst (Holds D c.read_opening.new.journal) same later) (are ∙ ap (entries_of 0) same))
    c.in_ok-build.ensures.goes_on c.in_ok-last.ensures.kept.1

pub returns-in_err-last-clause-quiet : goal.returns-in_err-last-clause-quiet
returns-in_err-last-clause-quiet g c =
    let D = g.D.Disk in
    only_reads_then D c.args.journal.now.disk c.read_opening.new.journal.disk c.read_last.new.journal.disk c.read_opening.ensures.quiet c.read_last.ensures.quiet

pub returns-clause-quiet : goal.returns-clause-quiet
returns-clause-quiet g c =
    let D = g.D.Disk in
    only_reads_then D c.args.journal.now.disk c.read_opening.new.journal.disk c.read_last.new.journal.disk c.read_opening.ensures.quiet c.read_last.ensures.quiet
