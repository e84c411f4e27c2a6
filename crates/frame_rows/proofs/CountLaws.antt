-- One part more, and values of any sort.
use Rattle.std.proofs.Common.{◌≡◌, ◌∙◌, ◌+◌, ◌-◌, ◌++◌, ℕ, suc, [], ap, arith}
use Rattle.std.proofs.lemmas.List.{append-nil}
use Rattle.model_run.specs.State.{Env}
use Rattle.model_run.specs.Around.{Shape, arity}
use Rattle.model_run.specs.FrameTable.{any_values, count_behind, count_of}

pub count_more : (sh : Shape) (env : Env) (n m : ℕ) → m ≡ arity sh - suc n → count_of sh env (n + 1) ≡ count_behind sh m (count_of sh env n)
count_more sh env n m is =
    let on : n + 1 ≡ suc n = omega arith in
    let back : arity sh - suc n ≡ m = omega (arith, is) in
    ap (count_of sh env) on ∙ ap (λ k. count_behind sh k (count_of sh env n)) back

pub any_alone : (n : ℕ) → any_values n ++ [] ≡ any_values n
any_alone n = append-nil (any_values n)
