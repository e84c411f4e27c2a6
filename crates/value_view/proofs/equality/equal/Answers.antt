use Rattle.std.proofs.Common.{sym, subst}
use Rattle.model_values.specs.Equality.{Equality}
use Rattle.model_values.specs.Limits.{product_limits}
use Rattle.value_view.specs.Answers.{Compares}
use Rattle.value_view.proofs.DepthLemmas.{equal_within-is}
use Rattle.value_view.proofs.equality.equal.Goals as goal

pub returns : goal.returns
returns c =
    let e = equal_within-is product_limits c.args.heap.now.cells 64 c.args.a.now c.args.b.now c.args.count.now in
    subst (λ (e : Equality). Compares e c.equal_within.new.count c.equal_within.result) (sym e) c.equal_within.ensures
