-- What stands inside the frames of a node: no declaration, where it is a part of a part or a suffix.
use Rattle.std.proofs.Common.{arith, ◌≡◌, ◌<◌, ◌-◌, refl, sym, ap, subst, ◌∙◌, ℕ, zero, suc, true, false, List}
use Rattle.std.specs.Prelude.{nat_eq, nat_lt}
use Rattle.std.proofs.lemmas.Bool.{eqb-true}
use Rattle.model_syntax.specs.declared.node.NodeForm.{NodeForm}
use Rattle.model_syntax.specs.declared.node.NodeForm.TheVariants as form
use Rattle.model_values.specs.declared.value.Value.{Value}
use Rattle.model_run.specs.declared.frame.FrameKind.{FrameKind}
use Rattle.model_run.specs.declared.frame.FrameKind.TheVariants as kind
use Rattle.model_run.specs.State.{Common, Env}
use Rattle.model_run.specs.Around.{Shape, form_at, arity, frame}
use Rattle.model_run.specs.Statements.{is_finally}
use Rattle.model_run.specs.Assignments.{place_size}
use Rattle.model_run.specs.FrameTable.{Within, Inner, Suffix, frame_row, gathers, same_form, is_arm, is_catch, is_choice, is_declaration, is_target_form, is_computed, gathered_within, suffixed_within, current, passes_part, passes_inner}
use Rattle.model_run.specs.Nesting.{MeetsRow}
use Rattle.model_run.specs.Scoping.{Names}
use Rattle.model_run.proofs.Under.{first_of_both, second_of_both}
use Rattle.run_laws.specs.Soundness.{Base, Shaped, may_declare, is_target, is_operand, seen}
use Rattle.run_laws.specs.Evaluation.{has_inner}
use Rattle.run_laws.proofs.Sources.{Place, no_declaration}
use Rattle.run_laws.proofs.SoundExpressions.{operand_inner}
use Rattle.run_laws.proofs.FrameForms.{suffixed_is}

arm_inner : (f : NodeForm) → is_arm f ≡ true → has_inner f ≡ true
arm_inner form.Arm e = refl
arm_inner f e = absurd (cc)

catch_inner : (f : NodeForm) → is_catch f ≡ true → has_inner f ≡ true
catch_inner (form.Catch caught x) e = refl
catch_inner f e = absurd (cc)

finally_inner : (f : NodeForm) → is_finally f ≡ true → has_inner f ≡ true
finally_inner form.Finally e = refl
finally_inner f e = absurd (cc)

computed_inner : (f : NodeForm) → is_computed f ≡ true → has_inner f ≡ true
computed_inner form.ComputedEntry e = refl
computed_inner f e = absurd (cc)

choice_inner : (f : NodeForm) → is_choice f ≡ true → has_inner f ≡ true
choice_inner form.IfTrue e = refl
choice_inner form.IfSet e = refl
choice_inner f e = absurd (cc)

target_inner : (f : NodeForm) → is_target f ≡ true → nat_lt 0 (place_size f) ≡ true → has_inner f ≡ true
target_inner (form.ToProperty p) t e = refl
target_inner form.ToIndex t e = refl
target_inner f t e = absurd (cc)

some_place : (n : ℕ) → nat_eq n 2 ≡ true → nat_lt 0 n ≡ true
some_place n e = ap (nat_lt 0) (eqb-true n 2 e)

-- a part of a part is in one that is evaluated part by part, and a suffix declares nothing
abbrev pub InsidePlain : Shape → Within → Type 0
InsidePlain sh (Inner i j) = has_inner (form_at sh.parts i) ≡ true
InsidePlain sh (Suffix i) = is_declaration (form_at sh.parts i) ≡ false
InsidePlain sh w = Unit {0}

module _ (g : Base) (shaped : Shaped g.script) (k : ℕ) (sh : Shape) (xs : Names) (place : Place g k sh xs) where
  pub target_there : is_target_form sh.form ≡ true → is_target (form_at sh.parts 0) ≡ true
  target_there t = ap (λ s. is_target (form_at s.parts 0)) (sym place.there) ∙ shaped.targets k (ap (λ s. is_target_form s.form) place.there ∙ t)

  operand_there : same_form form.Joined sh.form ≡ true → (left : ℕ) → left < arity sh - 1 → is_operand (form_at sh.parts (current sh left)) ≡ true
  operand_there e left lt =
      let at : current sh left ≡ suc (arity sh - suc (suc left)) = omega (arith, lt) in
      ap (λ i. is_operand (form_at sh.parts i)) at ∙ ap (λ s. is_operand (form_at s.parts (suc (arity sh - suc (suc left))))) (sym place.there)
      ∙ shaped.operands k (arity sh - suc (suc left)) (ap (λ s. same_form form.Joined s.form) place.there ∙ e) (subst (λ s. suc (arity sh - suc (suc left)) < arity s) (sym place.there) (omega (arith, lt)))

  gathered_plain : (i : ℕ) (p : NodeForm) → form_at sh.parts i ≡ p → InsidePlain sh (gathered_within i p)
  gathered_plain i (form.NamedEntry t) is = ap has_inner is
  gathered_plain i (form.NumberedEntry z) is = ap has_inner is
  gathered_plain i form.ComputedEntry is = ap has_inner is
  gathered_plain i p is = tt

  suffixed_plain : sh.form ≡ form.Suffixed → (i : ℕ) → InsidePlain sh (suffixed_within i)
  suffixed_plain is zero = tt
  suffixed_plain is (suc i) = no_declaration g shaped k sh xs place (suc i) (ap (λ f. may_declare f (suc i)) is)

  pub inside_plain : (d : FrameKind) (left : ℕ) (env : Env) (vs : List Value) (u : Common) → MeetsRow (seen u) sh (frame d k left env vs) → InsidePlain sh (frame_row d sh left env).inside
  inside_plain kind.IfTest left env vs u m = arm_inner (form_at sh.parts (current sh left)) (second_of_both (same_form form.If sh.form) _ m.stands)
  inside_plain kind.TryCatch left env vs u m = catch_inner (form_at sh.parts (current sh left)) (second_of_both (same_form form.Try sh.form) _ m.stands)
  inside_plain kind.FinallyAfterValue left env vs u m = finally_inner (form_at sh.parts (arity sh - 1)) (second_of_both (same_form form.Try sh.form) _ m.stands)
  inside_plain kind.FinallyAfterThrow left env vs u m = finally_inner (form_at sh.parts (arity sh - 1)) (second_of_both (same_form form.Try sh.form) _ m.stands)
  inside_plain kind.FinallyAfterReturn left env vs u m = finally_inner (form_at sh.parts (arity sh - 1)) (second_of_both (same_form form.Try sh.form) _ m.stands)
  inside_plain kind.FinallyAfterBreak left env vs u m = finally_inner (form_at sh.parts (arity sh - 1)) (second_of_both (same_form form.Try sh.form) _ m.stands)
  inside_plain kind.FinallyAfterContinue left env vs u m = finally_inner (form_at sh.parts (arity sh - 1)) (second_of_both (same_form form.Try sh.form) _ m.stands)
  inside_plain kind.TargetReceiver left env vs u m = target_inner (form_at sh.parts 0) (target_there (first_of_both _ _ m.stands)) (second_of_both (is_target_form sh.form) _ m.stands)
  inside_plain kind.TargetIndex left env vs u m = target_inner (form_at sh.parts 0) (target_there (first_of_both _ _ m.stands)) (some_place (place_size (form_at sh.parts 0)) (second_of_both (is_target_form sh.form) _ m.stands))
  inside_plain kind.Gathered left env vs u m = gathered_plain (current sh left) (form_at sh.parts (current sh left)) refl
  inside_plain kind.GatheredKey left env vs u m = computed_inner (form_at sh.parts (current sh left)) (second_of_both (gathers sh.form) _ m.stands)
  inside_plain kind.ChosenTest left env vs u m = choice_inner (form_at sh.parts (current sh left)) (second_of_both (same_form form.Chosen sh.form) _ m.stands)
  inside_plain kind.JoinedOperand left env vs u m = operand_inner (form_at sh.parts (current sh left)) (operand_there m.stands left m.left)
  inside_plain kind.SuffixedPart left env vs u m = suffixed_plain (suffixed_is sh.form m.stands) (current sh left)
  inside_plain d left env vs u m = tt

-- nodes that are passed through
pub passes_plain : (f p : NodeForm) → passes_part f p ≡ true → is_declaration f ≡ false
passes_plain form.Evaluate p e = refl
passes_plain form.If p e = refl
passes_plain form.Chosen p e = refl
passes_plain f p e = absurd (cc)

pub passes_quiet : (f p : NodeForm) (i : ℕ) → passes_part f p ≡ true → may_declare f i ≡ false
passes_quiet form.Evaluate p i e = refl
passes_quiet form.If p i e = refl
passes_quiet form.Chosen p i e = refl
passes_quiet f p i e = absurd (cc)

pub inner_plain : (f p : NodeForm) → passes_inner f p ≡ true → is_declaration f ≡ false
inner_plain form.If p e = refl
inner_plain form.Chosen p e = refl
inner_plain f p e = absurd (cc)

pub inner_inside : (f p : NodeForm) → passes_inner f p ≡ true → has_inner p ≡ true
inner_inside form.If form.Arm e = refl
inner_inside form.If p e = absurd (cc)
inner_inside form.Chosen form.IfTrue e = refl
inner_inside form.Chosen p e = absurd (cc)
inner_inside f p e = absurd (cc)
