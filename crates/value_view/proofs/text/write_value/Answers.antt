use Rattle.std.proofs.Common.{sym, subst}
use Rattle.model_values.specs.Limits.{product_limits}
use Rattle.model_values.specs.TextOf.{Writing}
use Rattle.value_view.specs.Answers.{Writes}
use Rattle.value_view.proofs.DepthLemmas.{text_within-is}
use Rattle.value_view.proofs.text.write_value.Goals as goal

pub returns : goal.returns
returns c =
    let e = text_within-is product_limits c.args.heap.now.cells 64 c.args.value.now c.args.text.now in
    subst (λ (w : Writing). Writes w c.write_within.new.text c.write_within.result) (sym e) c.write_within.ensures
