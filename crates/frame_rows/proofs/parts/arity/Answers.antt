use Rattle.std.proofs.Common.{◌∙◌}
use Rattle.cps_code.specs.Script.{script_of}
use Rattle.frame_rows.proofs.PartLaws.{arity_count}
use Rattle.frame_rows.proofs.parts.arity.Goals as goal

pub returns : goal.returns
returns c = c.parts.ensures ∙ arity_count (script_of c.args.code.now) c.args.node
