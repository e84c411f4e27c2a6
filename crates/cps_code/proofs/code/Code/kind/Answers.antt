use Rattle.std.proofs.Common.{ap}
use Rattle.cps_code.specs.declared.row.Row.{Row}
use Rattle.cps_code.proofs.Decoding.{code_row}
use Rattle.cps_code.proofs.code.Code.kind.Goals as goal

pub returns : goal.returns
returns c = ap (λ (r : Row). r.form) (code_row _ _ c.self.view_is c.args.node _ c.self.invariant.table c.requires c.index.ensures)
