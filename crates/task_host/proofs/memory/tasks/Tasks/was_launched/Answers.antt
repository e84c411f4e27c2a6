use Rattle.std.proofs.Common.{rules, tests, ◌≡◌, nat_eq, ◌∙◌, sym, ap}
use Rattle.std.proofs.lemmas.Iterator.Adapters.{YieldsList-from_rev_slice}
use Rattle.std.proofs.lemmas.Iterator.Search.{any_from_yields_List}
use Rattle.std.proofs.lemmas.List.Sorted.{list_any-IsPermutation, IsPermutation-reverse}
use Rattle.std.specs.Prelude.{reverse}
use Rattle.std.specs.List.{list_any}
use Rattle.task_host.specs.Tasks.{State, is_launched}
use Rattle.task_host.proofs.memory.tasks.Tasks.was_launched.Goals as goal

pub returns : goal.returns
returns c =
    let launches = c.self.inside.launches.items in
    let back : c.any.result ≡ list_any (λ t. nat_eq t c.args.task) (reverse launches) =
    any_from_yields_List (λ t. nat_eq t c.args.task) _ _ _ c.any.ensures.ran (YieldsList-from_rev_slice launches cc) (λ x b q k. search (rules, tests)) in
    back
    ∙ sym (list_any-IsPermutation (λ t. nat_eq t c.args.task) launches (reverse launches) (IsPermutation-reverse launches))
    ∙ ap (λ (s : State). is_launched c.args.task s.launches) c.self.view_is
