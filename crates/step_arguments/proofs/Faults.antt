-- The faults of a call, one argument on.
use Rattle.std.proofs.Common.{◌≡◌, ◌∙◌, List, ◌∷◌, [], ℕ, Option, Some, None, ap, sym, subst}
use Rattle.std.specs.Prelude.{◌++◌, codes, Result as Outcome}
use Rattle.model_values.specs.declared.value.Value.{Value}
use Rattle.model_values.specs.declared.limit.LimitKind.{LimitKind}
use Rattle.model_values.specs.Kinds.{kind}
use Rattle.model_run.specs.declared.step.Step.{Step}
use Rattle.model_run.specs.Around.{cells}
use Rattle.model_run.specs.State.{World}
use Rattle.step_arguments.specs.Binding.{BindsTo, Checks, Tells}
use Rattle.step_arguments.specs.declared.bound.Bound.{Bound as Uses}
use Rattle.step_arguments.specs.declared.refusal.BindRefusal.{BindRefusal}
use Rattle.step_arguments.specs.declared.refusal.BindRefusal.TheVariants.{Limit}
use Rattle.model_run.specs.StepTable.{Bad, Bound, Fit, Given, Meets, Refuses, and_fits, bind_fit, bind_given, bind_rest, bind_split, bind_step, named_or_main, split_last, step_name, takes_map}

-- a bad argument is told by its name, or by that of its part
pub bad_whole : (w : World) (s : Step) (args : Given) (body : Option Value) (name : List ℕ) (f rest : Fit) (text : List ℕ) → f ≡ Bad None → text ≡ step_name s ++ codes ": " ++ (codes "bad " ++ name) → bind_fit w s args body (and_fits name f rest) ≡ Refuses text
bad_whole w s args body name f rest text is told = ap (λ x. bind_fit w s args body (and_fits name x rest)) is ∙ ap Refuses (sym told)

pub bad_part : (w : World) (s : Step) (args : Given) (body : Option Value) (name part : List ℕ) (f rest : Fit) (text : List ℕ) → f ≡ Bad (Some part) → text ≡ step_name s ++ codes ": " ++ (codes "bad " ++ part) → bind_fit w s args body (and_fits name f rest) ≡ Refuses text
bad_part w s args body name part f rest text is told = ap (λ x. bind_fit w s args body (and_fits name x rest)) is ∙ ap Refuses (sym told)

pub too_long : (w : World) (s : Step) (args : Given) (body : Option Value) (name : List ℕ) (f rest : Fit) (k : LimitKind) → f ≡ Meets k → Tells (bind_fit w s args body (and_fits name f rest)) (Limit k)
too_long w s args body name f rest k is = ap (λ x. bind_fit w s args body (and_fits name x rest)) is

-- one check behind the other
pub tells_on : (b next : Bound) (r : BindRefusal) → b ≡ next → Tells next r → Tells b r
tells_on b next r is = subst (λ x. Tells x r) (sym is)

pub checks_on : (b next last : Bound) (r : Outcome (Unit {0}) BindRefusal) → b ≡ next → Checks next last r → Checks b last r
checks_on b next last r is = subst (λ x. Checks x last r) (sym is)

-- no argument, and one
pub bind_none : (w : World) (s : Step) (args : List Value) (p : List Value × Option Value) (r : Outcome Uses BindRefusal) → p ≡ split_last (cells w) args → p.0 ≡ [] → BindsTo w s (bind_given w s [] p.1) r → BindsTo w s (bind_step w s args) r
bind_none w s args p r split is h = subst (λ q. BindsTo w s (bind_split w s q) r) split (subst (λ vs. BindsTo w s (bind_rest w s vs p.1) r) (sym is) h)

pub bind_one : (w : World) (s : Step) (args : List Value) (p : List Value × Option Value) (v : Value) (r : Outcome Uses BindRefusal) → p ≡ split_last (cells w) args → p.0 ≡ v ∷ [] → BindsTo w s (bind_given w s (named_or_main s v (takes_map s) (kind (cells w) v)) p.1) r → BindsTo w s (bind_step w s args) r
bind_one w s args p v r split is h = subst (λ q. BindsTo w s (bind_split w s q) r) split (subst (λ vs. BindsTo w s (bind_rest w s vs p.1) r) (sym is) h)
