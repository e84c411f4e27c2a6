-- The formula of each kind of condition, and when it holds.
use Rattle.std.proofs.Common.{◌≡◌, ℕ, zero, suc, ◌+◌, ◌%◌, ◌<◌, ◌≤◌, Bool, true, false, List, [], ◌∷◌, map, length, drop, get_or, refl, sym, ap, ◌∙◌, arith, add-one, drop-cons}
use Rattle.std.specs.Prelude.{not, ◌&&◌, ◌||◌}
use Rattle.std.specs.List.{list_all, list_any}
use Rattle.std.proofs.lemmas.List.{drop_all}
use Rattle.label_expr.specs.declared.condition.Condition.{Condition, Condition-F, fold-roll-Condition}
use Rattle.label_expr.specs.declared.condition.Condition.TheVariants as condition
use Rattle.model_run.specs.Labels.{Formula, Named, Not, And, Or, Implies, Iff, holds}
use Rattle.label_expr.specs.Conditions.{negated, joined, condition_step, formula}

pub formula-Label : (name : List ℕ) → formula (condition.Label name) ≡ Named name
formula-Label name = ap formula (sym (condition.rolls-Label name)) ∙ fold-roll-Condition Formula condition_step (Condition-F.Label name)

pub formula-Not : (n : ℕ) (c : Condition) → formula (condition.Not n c) ≡ negated n (formula c)
formula-Not n c = ap formula (sym (condition.rolls-Not n c)) ∙ fold-roll-Condition Formula condition_step (Condition-F.Not n c)

pub formula-All : (c : Condition) (cs : List Condition) → formula (condition.All c cs) ≡ joined And (formula c) (map formula cs)
formula-All c cs = ap formula (sym (condition.rolls-All c cs)) ∙ fold-roll-Condition Formula condition_step (Condition-F.All c cs)

pub formula-AnyOf : (c : Condition) (cs : List Condition) → formula (condition.AnyOf c cs) ≡ joined Or (formula c) (map formula cs)
formula-AnyOf c cs = ap formula (sym (condition.rolls-AnyOf c cs)) ∙ fold-roll-Condition Formula condition_step (Condition-F.AnyOf c cs)

pub formula-Implies : (c d : Condition) → formula (condition.Implies c d) ≡ Implies (formula c) (formula d)
formula-Implies c d = ap formula (sym (condition.rolls-Implies c d)) ∙ fold-roll-Condition Formula condition_step (Condition-F.Implies c d)

pub formula-Iff : (c d : Condition) → formula (condition.Iff c d) ≡ Iff (formula c) (formula d)
formula-Iff c d = ap formula (sym (condition.rolls-Iff c d)) ∙ fold-roll-Condition Formula condition_step (Condition-F.Iff c d)

and-true : (a : Bool) → (a && true) ≡ a
and-true true = refl
and-true false = refl

and-assoc : (a b c : Bool) → ((a && b) && c) ≡ (a && (b && c))
and-assoc true b c = refl
and-assoc false b c = refl

or-false : (a : Bool) → (a || false) ≡ a
or-false true = refl
or-false false = refl

or-assoc : (a b c : Bool) → ((a || b) || c) ≡ (a || (b || c))
or-assoc true b c = refl
or-assoc false b c = refl

not-not : (a : Bool) → not (not a) ≡ a
not-not true = refl
not-not false = refl

module _ (labels : List (List ℕ)) where
  pub holds-all : (f : Formula) (fs : List Formula) → holds labels (joined And f fs) ≡ (holds labels f && list_all (holds labels) fs)
  holds-all f [] = sym (and-true (holds labels f))
  holds-all f (g ∷ fs) = holds-all (And f g) fs ∙ and-assoc (holds labels f) (holds labels g) (list_all (holds labels) fs)

  pub holds-any : (f : Formula) (fs : List Formula) → holds labels (joined Or f fs) ≡ (holds labels f || list_any (holds labels) fs)
  holds-any f [] = sym (or-false (holds labels f))
  holds-any f (g ∷ fs) = holds-any (Or f g) fs ∙ or-assoc (holds labels f) (holds labels g) (list_any (holds labels) fs)

  -- an even number of `!` changes nothing, an odd one turns the answer
  pub holds-even : (n : ℕ) (f : Formula) → n % 2 ≡ 0 → holds labels (negated n f) ≡ holds labels f
  holds-even zero f even = refl
  holds-even (suc zero) f even = absurd (omega (arith, even))
  holds-even (suc (suc n)) f even = holds-even n (Not (Not f)) (omega (arith, even)) ∙ not-not (holds labels f)

  pub holds-odd : (n : ℕ) (f : Formula) → (n % 2 ≡ 0 → ⊥) → holds labels (negated n f) ≡ not (holds labels f)
  holds-odd zero f odd = absurd (odd refl)
  holds-odd (suc zero) f odd = refl
  holds-odd (suc (suc n)) f odd = holds-odd n (Not (Not f)) (λ even. odd (omega (arith, even))) ∙ ap not (not-not (holds labels f))

-- what goes over a list one element at a time
module _ (labels : List (List ℕ)) (cs : List Condition) (i : ℕ) where
  pub all_next : (c : Condition) → c ≡ get_or cs i c → i < length cs
      → list_all (holds labels) (map formula (drop i cs)) ≡ (holds labels (formula c) && list_all (holds labels) (map formula (drop (i + 1) cs)))
  all_next c is within =
      ap (λ ys. list_all (holds labels) (map formula ys)) (drop-cons cs i c within)
      ∙ ap (λ y. holds labels (formula y) && list_all (holds labels) (map formula (drop (suc i) cs))) (sym is)
      ∙ ap (λ k. holds labels (formula c) && list_all (holds labels) (map formula (drop k cs))) (sym (add-one i))

  pub any_next : (c : Condition) → c ≡ get_or cs i c → i < length cs
      → list_any (holds labels) (map formula (drop i cs)) ≡ (holds labels (formula c) || list_any (holds labels) (map formula (drop (i + 1) cs)))
  any_next c is within =
      ap (λ ys. list_any (holds labels) (map formula ys)) (drop-cons cs i c within)
      ∙ ap (λ y. holds labels (formula y) || list_any (holds labels) (map formula (drop (suc i) cs))) (sym is)
      ∙ ap (λ k. holds labels (formula c) || list_any (holds labels) (map formula (drop k cs))) (sym (add-one i))

  pub all_over : length cs ≤ i → list_all (holds labels) (map formula (drop i cs)) ≡ true
  all_over behind = ap (λ ys. list_all (holds labels) (map formula ys)) (drop_all i cs behind)

  pub any_over : length cs ≤ i → list_any (holds labels) (map formula (drop i cs)) ≡ false
  any_over behind = ap (λ ys. list_any (holds labels) (map formula ys)) (drop_all i cs behind)
