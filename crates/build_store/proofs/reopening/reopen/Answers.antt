use Rattle.build_store.proofs.BeginLemmas.{opens_so, reopens}
use Rattle.build_store.proofs.reopening.reopen.Goals as goal

pub returns-clause-stands : goal.returns-clause-stands
returns-clause-stands g c = λ file told. reopens g.D.Disk g.R.ScriptThread.stance file c.open.result (c.open.ensures.opened file told) c.open.ensures.running

pub returns-clause-opened : goal.returns-clause-opened
returns-clause-opened g c = λ file told. opens_so g.D.Disk g.R.ScriptThread.stance file c.open.result (c.open.ensures.opened file told)
