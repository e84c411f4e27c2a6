use Rattle.std.proofs.Common.{◌∙◌, Some, ap}
use Rattle.cps_calls.proofs.callees.function_named.Goals as goal

pub returns : goal.returns
returns c = λ t. ap (λ e. Some (record { node = c.in_ok-node.node; env = e })) c.new-env.ensures ∙ c.in_ok-node.ensures
