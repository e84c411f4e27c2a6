use Rattle.durable_build.proofs.LoadLemmas.{image_by, image_none}
use Rattle.durable_build.proofs.opening.image_at.Goals as goal

pub returns-in-Ok-clause-finds : goal.returns-in-Ok-clause-finds
returns-in-Ok-clause-finds c = image_by c.args.before c.args.bytes.now c.in-Ok.payload c.args.at c.image_behind.result c.in-Ok.ensures.has c.image_behind.ensures.makes

pub returns-in-Err-clause-finds : goal.returns-in-Err-clause-finds
returns-in-Err-clause-finds c = image_none c.args.before c.args.bytes.now c.args.at c.in-Err.fault c.in-Err.ensures.has
