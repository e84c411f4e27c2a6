use Rattle.std.proofs.Common.{◌≡◌, ◌∙◌, List, ℕ, nat_eq, ap, subst}
use Rattle.std.specs.List.{list_any}
use Rattle.locked_build.specs.Histories.{Past, is_claimed}
use Rattle.locked_build.proofs.IndexLaws.{is_claimed-any}
use Rattle.locked_build.proofs.indexed.IndexedHistory.is_claimed.Goals as goal

pub returns : goal.returns
returns c =
    let known = c.deref.ensures.value ∙ c.self.invariant.1 in
    subst (λ (p : Past). c.contains.result ≡ is_claimed c.args.task p.items) c.self.view_is
    (c.contains.ensures.value ∙ ap (λ (ts : List ℕ). list_any (λ t. nat_eq t c.args.task) ts) known ∙ is_claimed-any c.args.task c.self.inside.entries.items)
