-- The parts of operators and suffixes, as the grammar has them.
use Rattle.std.proofs.Common.{◌≡◌, ◌∙◌, ◌<◌, ◌≤◌, ◌-◌, ◌&&◌, ℕ, zero, suc, List, [], ◌∷◌, ◌++◌, length, true, false, refl, sym, subst, arith}
use Rattle.std.proofs.Math.Bool.{Bool-set}
use Rattle.std.proofs.Math.Logic.{∥∥₁_elim}
use Rattle.model_syntax.specs.declared.node.NodeForm.{NodeForm}
use Rattle.model_syntax.specs.declared.node.NodeForm.TheVariants as form
use Rattle.model_syntax.specs.declared.tree.Access.{Access}
use Rattle.model_run.specs.Around.{arity, form_at}
use Rattle.model_run.specs.FrameTable.{current, is_choice, same_form}
use Rattle.model_run.specs.Nesting.{shape_at}
use Rattle.model_run.specs.Terms.{Term}
use Rattle.model_run.proofs.Under.{first_of_both, second_of_both}
use Rattle.run_laws.specs.Soundness.{Shaped, is_operand}
use Rattle.run_laws.proofs.ShapedScripts.{script_shaped}
use Rattle.script_laws.specs.NodeParts.{HasParts, One, Stand, is_expression, parts_asked}
use Rattle.script_laws.proofs.ScriptParts.{script_parts}
use Rattle.cps_code.specs.Script.{IsScript}
use Rattle.cps_frames.specs.Parts.{least_parts}
use Rattle.cps_frames.proofs.PartLaws.{parts_there}
use Rattle.cps_operators.specs.Suffixes.{is_property}

joined_form : (f : NodeForm) → same_form form.Joined f ≡ true → 1 ≤ least_parts f
joined_form form.Joined e = omega arith
joined_form f e = absurd (cc e)

-- there is a first operand
pub joined_parts : (root : Term) → IsScript root → (k : ℕ) → same_form form.Joined (shape_at root k).form ≡ true → 1 ≤ arity (shape_at root k)
joined_parts root script k is = let a : 1 ≤ least_parts (shape_at root k).form = joined_form (shape_at root k).form is in omega (arith, a, parts_there root script k)

-- and each further part is an operand
pub operand_there : (root : Term) → IsScript root → (k i : ℕ) → same_form form.Joined (shape_at root k).form ≡ true → 0 < i → i < arity (shape_at root k) → is_operand (form_at (shape_at root k).parts i) ≡ true
operand_there root script k i is some lt =
    let e : suc (i - 1) ≡ i = omega arith in
    let one : suc (i - 1) < arity (shape_at root k) = omega arith in
    ∥∥₁_elim script (hlevel (Bool-set)) (λ s. subst (λ j. is_operand (form_at (shape_at root k).parts j) ≡ true) e ((subst Shaped (sym s.1) (script_shaped s.0)).operands k (i - 1) is one))

-- Of `test ? value :` and `value ?:` the last part is no test.
no_test : (f : NodeForm) → is_expression f ≡ true → is_choice f ≡ false
no_test form.IfTrue e = absurd (cc e)
no_test form.IfSet e = absurd (cc e)
no_test f e = refl

some_behind : (fs gs : List NodeForm) → Stand (One is_expression ∷ []) gs → 0 < length (fs ++ gs)
some_behind [] [] h = absurd h
some_behind [] (g ∷ gs) h = omega arith
some_behind (f ∷ fs) gs h = omega arith

last_alone : (fs gs : List NodeForm) → Stand (One is_expression ∷ []) gs → is_choice (form_at (fs ++ gs) (length (fs ++ gs) - 1)) ≡ false
last_alone [] [] h = absurd h
last_alone [] (g ∷ []) h = no_test g h.0
last_alone [] (g ∷ e ∷ es) h = absurd (cc h.1)
last_alone (f ∷ fs) gs h =
    let some : 0 < length (fs ++ gs) = some_behind fs gs h in
    let e : suc (length (fs ++ gs) - 1) ≡ length (f ∷ (fs ++ gs)) - 1 = omega (arith, some) in
    subst (λ i. is_choice (form_at (f ∷ (fs ++ gs)) i) ≡ false) e (last_alone fs gs h)

chosen_last : (f : NodeForm) (fs : List NodeForm) → Stand (parts_asked f) fs → same_form form.Chosen f ≡ true → is_choice (form_at fs (length fs - 1)) ≡ false
chosen_last form.Chosen fs h is = subst (λ gs. is_choice (form_at gs (length gs - 1)) ≡ false) (sym h.split) (last_alone h.these h.rest h.behind)
chosen_last f fs h is = absurd (cc is)

last_choice : (root : Term) → IsScript root → (k : ℕ) → same_form form.Chosen (shape_at root k).form ≡ true → is_choice (form_at (shape_at root k).parts (arity (shape_at root k) - 1)) ≡ false
last_choice root script k is = ∥∥₁_elim script (hlevel (Bool-set)) (λ s. chosen_last (shape_at root k).form (shape_at root k).parts (subst (λ t. HasParts (shape_at t k)) (sym s.1) (script_parts s.0 k)) is)

-- so behind a test there is another part
pub choice_behind : (root : Term) → IsScript root → (k m : ℕ) → (same_form form.Chosen (shape_at root k).form && is_choice (form_at (shape_at root k).parts (current (shape_at root k) m))) ≡ true → 0 < m
choice_behind root script k zero h =
    let chosen : same_form form.Chosen (shape_at root k).form ≡ true = first_of_both _ _ h in
    let e : false ≡ true = sym (last_choice root script k chosen) ∙ second_of_both _ _ h in
    absurd (cc e)
choice_behind root script k (suc m) h = omega arith

-- `.name` and `?.name`
pub record PropertyOf (f : NodeForm) : Type 0 where
  pub access : Access
  pub name : List ℕ
  pub is : f ≡ form.Property access name

pub property_of : (f : NodeForm) → is_property f ≡ true → PropertyOf f
property_of (form.Property access p) e = record { access = access; name = p; is = refl }
property_of f e = absurd (cc e)
