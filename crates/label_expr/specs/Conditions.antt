-- What a parsed label says, as a formula, and which executors it fits (the form of a parsed label is this product's own).
use Rattle.std.specs.Prelude.{◌≡◌, ℕ, zero, suc, Bool, true, List, [], ◌∷◌, Option}
use Rattle.label_expr.specs.declared.condition.Condition.{Condition, Condition-F, fold-Condition}
use Rattle.label_expr.specs.declared.condition.LabelExpr.{LabelExpr}
use Rattle.label_expr.specs.declared.condition.LabelExpr.TheVariants.{Any, Where}
use Rattle.model_run.specs.Labels.{Formula, Named, Not, And, Or, Implies, Iff, holds, label_fits}

-- a formula behind so many `!`
abbrev pub negated : ℕ → Formula → Formula
negated zero f = f
negated (suc n) f = negated n (Not f)

-- formulas with a sign between them, which binds to the left
abbrev pub joined : (Formula → Formula → Formula) → Formula → List Formula → Formula
joined sign f [] = f
joined sign f (g ∷ gs) = joined sign (sign f g) gs

-- the formula of a condition, from those of its operands
abbrev pub condition_step : Condition-F Formula → Formula
condition_step (Condition-F.Label name) = Named name
condition_step (Condition-F.Not signs f) = negated signs f
condition_step (Condition-F.All f fs) = joined And f fs
condition_step (Condition-F.AnyOf f fs) = joined Or f fs
condition_step (Condition-F.Implies f g) = Implies f g
condition_step (Condition-F.Iff f g) = Iff f g

-- the formula of a parsed label
abbrev pub formula : Condition → Formula
formula = fold-Condition Formula condition_step

-- Jenkins: whether an executor with these labels fits; without a label any does
abbrev pub fits : List (List ℕ) → LabelExpr → Bool
fits labels Any = true
fits labels (Where condition) = holds labels (formula condition)

-- this fits just the executors that a label says, whatever their labels
abbrev pub IsLabel : Option (List ℕ) → LabelExpr → Type 0
IsLabel label expr = (labels : List (List ℕ)) → fits labels expr ≡ label_fits labels label
