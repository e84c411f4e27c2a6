-- The branches of a call of `parallel`, where each of its arguments fits.
use Rattle.std.proofs.Common.{◌≡◌, ℕ, Bool, true, false, List, [], ◌∷◌, Option, Some, length, refl, sym, arith}
use Rattle.std.specs.Prelude.{if◌then◌else◌, ◌||◌, codes, not}
use Rattle.std.specs.List.{All}
use Rattle.std.proofs.lemmas.List.Elements.{All-cons}
use Rattle.cell_heap.specs.Soundness.{ValueBelow}
use Rattle.model_values.specs.Fitting.{HasClosure, IsIn}
use Rattle.model_values.specs.Kinds.{Kind, null, flag, number, text, items, pairs, closure, thrown, kind}
use Rattle.model_values.specs.TextOf.{key_text}
use Rattle.model_values.specs.declared.cell.Cell.{Cell}
use Rattle.model_values.specs.declared.key.Key.{Key}
use Rattle.model_values.specs.declared.value.Value.{Value}
use Rattle.model_run.specs.Names.{same_text}
use Rattle.model_run.specs.declared.step.Step.TheVariants.{Parallel}
use Rattle.model_run.specs.StepTable.{Bad, Closures, Fit, Fits, Given, are_branches, branch_fit, given, is_closure}
use Rattle.step_arguments.specs.Binding.{AllFit, AreBranches}
use Rattle.step_arguments.proofs.Arguments.{closure_kind, given_below}
use Rattle.step_arguments.proofs.Fitted.{fits_sort}

no_bad : (bad : Bool) (p : Option (List ℕ)) (rest : Fit) → (if bad then Bad p else rest) ≡ Fits → (bad ≡ false) × (rest ≡ Fits)
no_bad true p rest e = absurd (cc e)
no_bad false p rest e = (refl, e)

is_one : (a b : Bool) → (a || not b) ≡ false → true ≡ b
is_one true b e = absurd (cc e)
is_one false true e = refl
is_one false false e = absurd (cc e)

closures : (h : List Cell) (es : List (Key × Value)) → branch_fit h es ≡ Fits → All (λ e. IsIn HasClosure h e.1) es
closures h [] is = λ k d lt. absurd (omega arith)
closures h (e ∷ es) is =
    let same = same_text (key_text e.0) (codes "failFast") in
    let p = no_bad (same || not (is_closure (kind h e.1))) (Some (key_text e.0)) (branch_fit h es) is in
    All-cons (λ (x : Key × Value). IsIn HasClosure h x.1) e es (closure_kind h e.1 (is_one same (is_closure (kind h e.1)) p.0)) (closures h es p.1)

branches_fit : (h : List Cell) (k : Kind) → are_branches h k ≡ Fits → AreBranches h k
branches_fit h (pairs c es) is = closures h es is
branches_fit h null is = absurd (cc is)
branches_fit h (flag b) is = absurd (cc is)
branches_fit h (number z) is = absurd (cc is)
branches_fit h (text t) is = absurd (cc is)
branches_fit h (items c vs) is = absurd (cc is)
branches_fit h (closure c) is = absurd (cc is)
branches_fit h (thrown c class m) is = absurd (cc is)

-- the branches that are given are closures
pub branches_are : (h : List Cell) (args : Given) (m : Value) → All (λ g. ValueBelow (length h) g.1) args → given (codes "branches") args ≡ Some m → AllFit h Parallel args → ValueBelow (length h) m × AreBranches h (kind h m)
branches_are h args m below found fits =
    (given_below (length h) (codes "branches") args m below (sym found), branches_fit h (kind h m) (fits_sort h Parallel Closures (codes "branches") args m refl fits (sym found)))
