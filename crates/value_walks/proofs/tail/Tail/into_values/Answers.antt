use Rattle.std.proofs.Common.{◌≡◌, ◌∙◌, ◌++◌, length, drop, ap}
use Rattle.value_walks.proofs.TailLemmas.{drained}
use Rattle.value_walks.proofs.tail.Tail.into_values.Goals as goal

pub returns : goal.returns
returns c =
    let e = c.in_ok-splice.ensures.items in
    let given : e.1 ≡ c.args.front = drained e.0 e.1 c.args.front (e.2.0 ∙ c.into_vec.ensures) (e.2.1 ∙ c.into_vec.result.ok.0 ∙ ap length c.into_vec.ensures) e.3 in
    c.from_vec.ensures ∙ e.4 ∙ ap (λ vs. vs ++ drop c.self.inside.from c.self.inside.items.items) given ∙ ap (λ vs. c.args.front ++ vs) c.self.view_is
