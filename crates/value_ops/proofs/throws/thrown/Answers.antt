use Rattle.std.proofs.Common.{ℕ, List, ap}
use Rattle.model_values.specs.Cells.{throw}
use Rattle.model_values.specs.Limits.{product_limits}
use Rattle.value_ops.proofs.throws.thrown.Goals as goal

pub returns-clause-answer : goal.returns-clause-answer
returns-clause-answer c = λ h. ap (λ (m : List ℕ). throw product_limits h c.args.class m) c.in_ok-message.ensures
