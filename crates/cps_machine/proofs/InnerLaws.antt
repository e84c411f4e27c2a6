-- A part of a part is entered only where it is there: the forms that are evaluated part by part have these parts.
use Rattle.std.proofs.Common.{◌≡◌, ◌∙◌, ℕ, zero, suc, ◌-◌, ◌<◌, ◌≤◌, Bool, true, false, List, arith, refl, ap, subst, sym}
use Rattle.std.specs.Prelude.{◌&&◌, ◌||◌, nat_eq, nat_lt}
use Rattle.model_syntax.specs.declared.node.NodeForm.{NodeForm}
use Rattle.model_syntax.specs.declared.node.NodeForm.TheVariants as form
use Rattle.model_values.specs.declared.value.Value.{Value}
use Rattle.model_run.specs.declared.frame.FrameKind.{FrameKind}
use Rattle.model_run.specs.declared.frame.FrameKind.TheVariants as kind
use Rattle.model_run.specs.Around.{Shape, arity, form_at, frame}
use Rattle.model_run.specs.Assignments.{place_size}
use Rattle.model_run.specs.FrameTable.{Within, Inner, current, frame_row, gathered_within, gathers, is_arm, is_catch, is_choice, is_computed, is_target_form, passes, passes_inner, same_form, suffixed_within}
use Rattle.model_run.specs.Meaning.{shape_of}
use Rattle.model_run.specs.Nesting.{MeetsRow, anything, part_number, shape_at}
use Rattle.model_run.specs.State.{Env}
use Rattle.model_run.specs.Statements.{is_finally}
use Rattle.model_run.specs.Terms.{Found, Numbered, Term, number_of, part_of, term_at}
use Rattle.model_run.proofs.Found.{part_found, term_found}
use Rattle.script_laws.specs.NodeParts.{is_operand, is_target}
use Rattle.run_laws.proofs.Evaluation.{ScriptFacts}
use Rattle.cps_code.specs.Script.{IsScript}
use Rattle.cps_frames.specs.Parts.{least_parts}
use Rattle.cps_frames.proofs.PartLaws.{parts_there}

second_true : (a b : Bool) → a && b ≡ true → b ≡ true
second_true true b e = e
second_true false b e = absurd (cc e)

first_true : (a b : Bool) → a && b ≡ true → a ≡ true
first_true true b e = refl
first_true false b e = absurd (cc e)

neither : (a b : Bool) → (a && false) || (b && false) ≡ true → ⊥
neither true true e = cc e
neither true false e = cc e
neither false true e = cc e
neither false false e = cc e

arm_least : (f : NodeForm) → is_arm f ≡ true → 0 < least_parts f
arm_least form.Arm e = omega arith
arm_least f e = absurd (cc e)

catch_least : (f : NodeForm) → is_catch f ≡ true → 0 < least_parts f
catch_least (form.Catch caught x) e = omega arith
catch_least f e = absurd (cc e)

finally_least : (f : NodeForm) → is_finally f ≡ true → 0 < least_parts f
finally_least form.Finally e = omega arith
finally_least f e = absurd (cc e)

choice_least : (f : NodeForm) → is_choice f ≡ true → 0 < least_parts f
choice_least form.IfTrue e = omega arith
choice_least form.IfSet e = omega arith
choice_least f e = absurd (cc e)

computed_least : (f : NodeForm) → is_computed f ≡ true → 0 < least_parts f
computed_least form.ComputedEntry e = omega arith
computed_least f e = absurd (cc e)

operand_least : (f : NodeForm) → is_operand f ≡ true → 0 < least_parts f
operand_least (form.Operand o) e = omega arith
operand_least f e = absurd (cc e)

target_least : (f : NodeForm) → is_target f ≡ true → nat_lt 0 (place_size f) ≡ true → 0 < least_parts f
target_least (form.ToProperty p) t e = omega arith
target_least form.ToIndex t e = omega arith
target_least f t e = absurd (cc)

index_least : (f : NodeForm) → is_target f ≡ true → nat_eq (place_size f) 2 ≡ true → 1 < least_parts f
index_least form.ToIndex t e = omega arith
index_least f t e = absurd (cc)

passes_least : (f g : NodeForm) → passes_inner g f ≡ true → 1 < least_parts f
passes_least form.Arm g e = omega arith
passes_least form.IfTrue g e = omega arith
passes_least f g e = absurd (neither _ _ e)

-- a part of a part is one of those that its form asks for
abbrev pub LeastIn : Shape → Within → Type 0
LeastIn sh (Inner i j) = j < least_parts (form_at sh.parts i)
LeastIn sh w = Unit {0}

gathered_least : (sh : Shape) (i : ℕ) (f : NodeForm) → form_at sh.parts i ≡ f → LeastIn sh (gathered_within i f)
gathered_least sh i (form.NamedEntry t) is = subst (λ f. 0 < least_parts f) (sym is) (omega arith)
gathered_least sh i (form.NumberedEntry z) is = subst (λ f. 0 < least_parts f) (sym is) (omega arith)
gathered_least sh i form.ComputedEntry is = subst (λ f. 1 < least_parts f) (sym is) (omega arith)
gathered_least sh i f is = tt

suffixed_least : (sh : Shape) (i : ℕ) → LeastIn sh (suffixed_within i)
suffixed_least sh zero = tt
suffixed_least sh (suc i) = tt

found_at : (root t : Term) → Found root t → term_at root (number_of t) ≡ t
found_at root (Numbered k f ps) h = h.0

module _ (root : Term) (found : Found root root) (script : IsScript root) (facts : ScriptFacts root) where
  -- of a frame of node k that meets the table
  rows_least : (k : ℕ) (d : FrameKind) (left : ℕ) (env : Env) (vs : List Value) → MeetsRow anything (shape_at root k) (frame d k left env vs) → LeastIn (shape_at root k) (frame_row d (shape_at root k) left env).inside
  rows_least k kind.IfTest left env vs m = arm_least (form_at (shape_at root k).parts (current (shape_at root k) left)) (second_true (same_form form.If (shape_at root k).form) (is_arm (form_at (shape_at root k).parts (current (shape_at root k) left))) m.stands)
  rows_least k kind.TryCatch left env vs m = catch_least (form_at (shape_at root k).parts (current (shape_at root k) left)) (second_true (same_form form.Try (shape_at root k).form) (is_catch (form_at (shape_at root k).parts (current (shape_at root k) left))) m.stands)
  rows_least k kind.FinallyAfterValue left env vs m = finally_least (form_at (shape_at root k).parts (arity (shape_at root k) - 1)) (second_true (same_form form.Try (shape_at root k).form) (is_finally (form_at (shape_at root k).parts (arity (shape_at root k) - 1))) m.stands)
  rows_least k kind.FinallyAfterThrow left env vs m = finally_least (form_at (shape_at root k).parts (arity (shape_at root k) - 1)) (second_true (same_form form.Try (shape_at root k).form) (is_finally (form_at (shape_at root k).parts (arity (shape_at root k) - 1))) m.stands)
  rows_least k kind.FinallyAfterReturn left env vs m = finally_least (form_at (shape_at root k).parts (arity (shape_at root k) - 1)) (second_true (same_form form.Try (shape_at root k).form) (is_finally (form_at (shape_at root k).parts (arity (shape_at root k) - 1))) m.stands)
  rows_least k kind.FinallyAfterBreak left env vs m = finally_least (form_at (shape_at root k).parts (arity (shape_at root k) - 1)) (second_true (same_form form.Try (shape_at root k).form) (is_finally (form_at (shape_at root k).parts (arity (shape_at root k) - 1))) m.stands)
  rows_least k kind.FinallyAfterContinue left env vs m = finally_least (form_at (shape_at root k).parts (arity (shape_at root k) - 1)) (second_true (same_form form.Try (shape_at root k).form) (is_finally (form_at (shape_at root k).parts (arity (shape_at root k) - 1))) m.stands)
  rows_least k kind.TargetReceiver left env vs m = target_least (form_at (shape_at root k).parts 0) ((facts.shaped).targets k (first_true (is_target_form (shape_at root k).form) (nat_lt 0 (place_size (form_at (shape_at root k).parts 0))) m.stands)) (second_true (is_target_form (shape_at root k).form) (nat_lt 0 (place_size (form_at (shape_at root k).parts 0))) m.stands)
  rows_least k kind.TargetIndex left env vs m = index_least (form_at (shape_at root k).parts 0) ((facts.shaped).targets k (first_true (is_target_form (shape_at root k).form) (nat_eq (place_size (form_at (shape_at root k).parts 0)) 2) m.stands)) (second_true (is_target_form (shape_at root k).form) (nat_eq (place_size (form_at (shape_at root k).parts 0)) 2) m.stands)
  rows_least k kind.Gathered left env vs m = gathered_least (shape_at root k) (current (shape_at root k) left) (form_at (shape_at root k).parts (current (shape_at root k) left)) refl
  rows_least k kind.GatheredKey left env vs m = computed_least (form_at (shape_at root k).parts (current (shape_at root k) left)) (second_true (gathers (shape_at root k).form) (is_computed (form_at (shape_at root k).parts (current (shape_at root k) left))) m.stands)
  rows_least k kind.ChosenTest left env vs m = choice_least (form_at (shape_at root k).parts (current (shape_at root k) left)) (second_true (same_form form.Chosen (shape_at root k).form) (is_choice (form_at (shape_at root k).parts (current (shape_at root k) left))) m.stands)
  rows_least k kind.SuffixedPart left env vs m = suffixed_least (shape_at root k) (current (shape_at root k) left)
  rows_least k kind.JoinedOperand left env vs m =
      let lt : left < arity (shape_at root k) - 1 = m.left in
      let at : current (shape_at root k) left ≡ suc (arity (shape_at root k) - suc (suc left)) = omega (arith, lt) in
      operand_least (form_at (shape_at root k).parts (current (shape_at root k) left)) (ap (λ i. is_operand (form_at (shape_at root k).parts i)) at ∙ (facts.shaped).operands k (arity (shape_at root k) - suc (suc left)) m.stands (omega (arith, lt)))
  rows_least k d left env vs m = tt

  -- part i of a node has the parts that its form asks for
  least_there : (k i : ℕ) → least_parts (form_at (shape_at root k).parts i) ≤ arity (shape_of (part_of root (term_at root k) i))
  least_there k i =
      let is : term_at root (part_number root k i) ≡ part_of root (term_at root k) i = found_at root (part_of root (term_at root k) i) (part_found root (term_at root k) i (term_found root found k)) in
      subst (λ t. least_parts (form_at (shape_at root k).parts i) ≤ arity (shape_of t)) is
      (subst (λ f. least_parts f ≤ arity (shape_at root (part_number root k i))) (facts.forms k i) (parts_there root script (part_number root k i)))

  -- part j of part i of node k is there
  abbrev pub IsThere : ℕ → Within → Type 0
  IsThere k (Inner i j) = j < arity (shape_of (part_of root (term_at root k) i))
  IsThere k w = Unit {0}

  there_of : (k : ℕ) (w : Within) → LeastIn (shape_at root k) w → IsThere k w
  there_of k (Inner i j) h = let le : least_parts (form_at (shape_at root k).parts i) ≤ arity (shape_of (part_of root (term_at root k) i)) = least_there k i in let lt : j < least_parts (form_at (shape_at root k).parts i) = h in omega (arith, le, lt)
  there_of k w h = tt

  pub frame_there : (k : ℕ) (d : FrameKind) (left : ℕ) (env : Env) (vs : List Value) → MeetsRow anything (shape_at root k) (frame d k left env vs) → IsThere k (frame_row d (shape_at root k) left env).inside
  frame_there k d left env vs m = there_of k (frame_row d (shape_at root k) left env).inside (rows_least k d left env vs m)

  -- what a node passes through is there
  pub passed_there : (k : ℕ) (w : Within) → passes (shape_at root k) w ≡ true → IsThere k w
  passed_there k (Inner i (suc zero)) pass = there_of k (Inner i 1) (passes_least (form_at (shape_at root k).parts i) (shape_at root k).form pass)
  passed_there k (Inner i zero) pass = absurd (cc pass)
  passed_there k (Inner i (suc (suc j))) pass = absurd (cc pass)
  passed_there k w pass = tt
