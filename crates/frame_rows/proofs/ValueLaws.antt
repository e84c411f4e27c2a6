-- Values of any sort before those of the sorts that a row lists.
use Rattle.std.proofs.Common.{◌≡◌, ◌∙◌, ◌≤◌, ◌++◌, ℕ, zero, suc, Bool, true, false, List, [], ◌∷◌, length, take, drop, refl, ap, arith}
use Rattle.std.specs.Prelude.{◌&&◌}
use Rattle.model_run.specs.ValueTypes.{Value, Cell}
use Rattle.model_run.specs.FrameTable.{Sort, Further, any_values}
use Rattle.frame_rows.specs.Values.{all_there, is_there, values_fit}

and_and : (a b c : Bool) → (a && (b && c)) ≡ ((a && b) && c)
and_and true b c = refl
and_and false b c = refl

pub any_first : (h : List Cell) (nodes : ℕ) (further : Further) (n : ℕ) (xs : List Sort) (vs : List Value) → n ≤ length vs → values_fit h nodes further (any_values n ++ xs) vs ≡ (all_there h (take n vs) && values_fit h nodes further xs (drop n vs))
any_first h nodes further zero xs vs le = refl
any_first h nodes further (suc n) xs [] le = absurd (omega (arith, le))
any_first h nodes further (suc n) xs (v ∷ vs) le =
    ap (λ b. is_there h v && b) (any_first h nodes further n xs vs (omega (arith, le))) ∙ and_and (is_there h v) (all_there h (take n vs)) (values_fit h nodes further xs (drop n vs))

and_false : (a : Bool) → (a && false) ≡ false
and_false true = refl
and_false false = refl

pub any_missing : (h : List Cell) (nodes : ℕ) (further : Further) (n : ℕ) (xs : List Sort) (vs : List Value) → suc (length vs) ≤ n → values_fit h nodes further (any_values n ++ xs) vs ≡ false
any_missing h nodes further zero xs vs le = absurd (omega (arith, le))
any_missing h nodes further (suc n) xs [] le = refl
any_missing h nodes further (suc n) xs (v ∷ vs) le = ap (λ b. is_there h v && b) (any_missing h nodes further n xs vs (omega (arith, le))) ∙ and_false (is_there h v)
