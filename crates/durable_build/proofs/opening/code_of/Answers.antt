use Rattle.std.proofs.Common.{refl, ap, Err}
use Rattle.durable_build.proofs.LoadLemmas.{no_tree}
use Rattle.durable_build.proofs.opening.code_of.Goals as goal

pub returns-in-Err-Fault-clause-says : goal.returns-in-Err-Fault-clause-says
returns-in-Err-Fault-clause-says c = (refl, no_tree c.args.script.now c.in-Err-Fault.field-0-0 (c.in-Err-Fault.ensures.fault c.in-Err-Fault.field-0-0 (ap Err c.in-Err-Fault.field-0-is)))
