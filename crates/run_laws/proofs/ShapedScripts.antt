-- The nodes of a tree's script stand as soundness asks: it follows from the parts that each form asks for.
use Rattle.std.proofs.Common.{arith, ◌≡◌, ◌<◌, refl, sym, subst, ap, ◌∙◌, ℕ, zero, suc, Bool, true, false, List, [], ◌∷◌, ◌++◌, length}
use Rattle.std.proofs.lemmas.List.{append-nil}
use Rattle.std.specs.List.{AllByRecursion as AllAre}
use Rattle.model_syntax.specs.declared.node.NodeForm.{NodeForm}
use Rattle.model_syntax.specs.declared.node.NodeForm.TheVariants as form
use Rattle.model_syntax.specs.declared.tree.Tree.{Tree}
use Rattle.model_syntax.specs.TreeNodes.{tree_node}
use Rattle.model_run.specs.Terms.{Term, term}
use Rattle.model_run.specs.Around.{form_at}
use Rattle.model_run.specs.Statements.{is_finally}
use Rattle.model_run.specs.FrameTable.{is_target_form, is_declaration, same_form, is_arm, is_catch, is_choice}
use Rattle.model_run.specs.Nesting.{shape_at}
use Rattle.script_laws.specs.NodeParts.{is_body, is_expression, is_text_part, is_entry, is_sign, is_suffix, Slot, One, Any_number, parts_asked, AllOf, Stand, AllHaveParts}
use Rattle.script_laws.proofs.PartFacts.{Admits, each_part}
use Rattle.script_laws.proofs.ScriptParts.{script_parts}
use Rattle.run_laws.specs.Soundness.{Shaped, may_declare, is_target, is_operand}

-- a kind of which no declaration is
plain_of : (test : NodeForm → Bool) → ((x : List ℕ) → test (form.Declare x) ≡ false) → (f : NodeForm) → test f ≡ true → is_declaration f ≡ false
plain_of test never (form.Declare x) e = let d : test (form.Declare x) ≡ false = never x in absurd (cc)
plain_of test never f e = refl

body : (f : NodeForm) → is_body f ≡ true → is_declaration f ≡ false
body = plain_of is_body (λ x. refl)

expression : (f : NodeForm) → is_expression f ≡ true → is_declaration f ≡ false
expression = plain_of is_expression (λ x. refl)

entry : (f : NodeForm) → is_entry f ≡ true → is_declaration f ≡ false
entry = plain_of is_entry (λ x. refl)

target : (f : NodeForm) → is_target f ≡ true → is_declaration f ≡ false
target = plain_of is_target (λ x. refl)

assignment : (f : NodeForm) → is_target_form f ≡ true → is_declaration f ≡ false
assignment = plain_of is_target_form (λ x. refl)

-- where no slot takes a declaration there is none
never : {C : Type 0} (slots : List Slot) → AllAre (Admits (λ f. is_declaration f ≡ false)) slots → (fs : List NodeForm) → Stand slots fs → (i : ℕ) → is_declaration (form_at fs i) ≡ true → C
never slots a fs h i e = let p : is_declaration (form_at fs i) ≡ false = each_part (λ f. is_declaration f ≡ false) refl slots a fs h i in absurd (cc)

declares_in : (f : NodeForm) (fs : List NodeForm) → Stand (parts_asked f) fs → (i : ℕ) → is_declaration (form_at fs i) ≡ true → may_declare f i ≡ true
declares_in form.Script fs h i e = refl
declares_in form.Block fs h i e = refl
declares_in form.ForSteps fs h zero e = refl
declares_in form.ForSteps [] h (suc i) e = absurd h
declares_in form.ForSteps (f ∷ fs) h (suc i) e = never (One is_expression ∷ One is_target_form ∷ One is_body ∷ []) (expression, (assignment, (body, tt))) fs h.1 i e
declares_in (form.Function x names) fs h i e = never (parts_asked (form.Function x names)) (body, tt) fs h i e
declares_in form.If fs h i e = never (parts_asked form.If) (plain_of is_arm (λ x. refl), (body, tt)) fs h i e
declares_in form.Arm fs h i e = never (parts_asked form.Arm) (expression, (body, tt)) fs h i e
declares_in form.While fs h i e = never (parts_asked form.While) (expression, (body, tt)) fs h i e
declares_in (form.ForEach x) fs h i e = never (parts_asked (form.ForEach x)) (expression, (body, tt)) fs h i e
declares_in form.Try fs h i e = never (parts_asked form.Try) (body, (plain_of is_catch (λ x. refl), (plain_of is_finally (λ x. refl), tt))) fs h i e
declares_in (form.Catch caught x) fs h i e = never (parts_asked (form.Catch caught x)) (body, tt) fs h i e
declares_in form.Finally fs h i e = never (parts_asked form.Finally) (body, tt) fs h i e
declares_in (form.Declare x) fs h i e = never (parts_asked (form.Declare x)) (expression, tt) fs h i e
declares_in (form.Assign sign) fs h i e = never (parts_asked (form.Assign sign)) (target, (expression, tt)) fs h i e
declares_in form.Increment fs h i e = never (parts_asked form.Increment) (target, tt) fs h i e
declares_in form.Decrement fs h i e = never (parts_asked form.Decrement) (target, tt) fs h i e
declares_in (form.ToProperty p) fs h i e = never (parts_asked (form.ToProperty p)) (expression, tt) fs h i e
declares_in form.ToIndex fs h i e = never (parts_asked form.ToIndex) (expression, (expression, tt)) fs h i e
declares_in form.Evaluate fs h i e = never (parts_asked form.Evaluate) (expression, tt) fs h i e
declares_in form.Return fs h i e = never (parts_asked form.Return) (expression, tt) fs h i e
declares_in form.Throw fs h i e = never (parts_asked form.Throw) (expression, tt) fs h i e
declares_in form.GString fs h i e = never (parts_asked form.GString) (plain_of is_text_part (λ x. refl), tt) fs h i e
declares_in (form.Call f) fs h i e = never (parts_asked (form.Call f)) (entry, (expression, tt)) fs h i e
declares_in form.Group fs h i e = never (parts_asked form.Group) (expression, tt) fs h i e
declares_in form.List fs h i e = never (parts_asked form.List) (expression, tt) fs h i e
declares_in form.Map fs h i e = never (parts_asked form.Map) (entry, tt) fs h i e
declares_in (form.NamedEntry t) fs h i e = never (parts_asked (form.NamedEntry t)) (expression, tt) fs h i e
declares_in (form.NumberedEntry z) fs h i e = never (parts_asked (form.NumberedEntry z)) (expression, tt) fs h i e
declares_in form.ComputedEntry fs h i e = never (parts_asked form.ComputedEntry) (expression, (expression, tt)) fs h i e
declares_in (form.Closure heads) fs h i e = never (parts_asked (form.Closure heads)) (body, tt) fs h i e
declares_in (form.New c) fs h i e = never (parts_asked (form.New c)) (expression, tt) fs h i e
declares_in form.Suffixed fs h i e = never (parts_asked form.Suffixed) (expression, (plain_of is_suffix (λ x. refl), tt)) fs h i e
declares_in (form.Method access f) fs h i e = never (parts_asked (form.Method access f)) (entry, (expression, tt)) fs h i e
declares_in form.Index fs h i e = never (parts_asked form.Index) (expression, tt) fs h i e
declares_in form.Prefixed fs h i e = never (parts_asked form.Prefixed) (plain_of is_sign (λ x. refl), (expression, tt)) fs h i e
declares_in form.Joined fs h i e = never (parts_asked form.Joined) (expression, (plain_of is_operand (λ x. refl), tt)) fs h i e
declares_in (form.Operand o) fs h i e = never (parts_asked (form.Operand o)) (expression, tt) fs h i e
declares_in form.And fs h i e = never (parts_asked form.And) (expression, tt) fs h i e
declares_in form.Or fs h i e = never (parts_asked form.Or) (expression, tt) fs h i e
declares_in form.Chosen fs h i e = never (parts_asked form.Chosen) (plain_of is_choice (λ x. refl), (expression, tt)) fs h i e
declares_in form.IfTrue fs h i e = never (parts_asked form.IfTrue) (expression, (expression, tt)) fs h i e
declares_in form.IfSet fs h i e = never (parts_asked form.IfSet) (expression, tt) fs h i e
declares_in f fs h i e = never [] tt fs h i e

targets_in : (f : NodeForm) (fs : List NodeForm) → Stand (parts_asked f) fs → is_target_form f ≡ true → is_target (form_at fs 0) ≡ true
targets_in (form.Assign sign) [] h e = absurd h
targets_in (form.Assign sign) (t ∷ fs) h e = h.0
targets_in form.Increment [] h e = absurd h
targets_in form.Increment (t ∷ fs) h e = h.0
targets_in form.Decrement [] h e = absurd h
targets_in form.Decrement (t ∷ fs) h e = h.0
targets_in f fs h e = absurd (cc)

several_all : (test : NodeForm → Bool) (fs : List NodeForm) → Stand (Any_number test ∷ []) fs → AllOf test fs
several_all test fs h = subst (AllOf test) (sym (h.split ∙ ap (λ gs. h.these ++ gs) h.behind ∙ append-nil h.these)) h.kind

one_of_all : (test : NodeForm → Bool) (fs : List NodeForm) (i : ℕ) → AllOf test fs → i < length fs → test (form_at fs i) ≡ true
one_of_all test [] i all lt = absurd (omega arith)
one_of_all test (f ∷ fs) zero all lt = all.0
one_of_all test (f ∷ fs) (suc i) all lt = one_of_all test fs i all.1 (omega arith)

operands_in : (f : NodeForm) (fs : List NodeForm) → Stand (parts_asked f) fs → (i : ℕ) → same_form form.Joined f ≡ true → suc i < length fs → is_operand (form_at fs (suc i)) ≡ true
operands_in form.Joined [] h i e lt = absurd h
operands_in form.Joined (f ∷ fs) h i e lt = one_of_all is_operand fs i (several_all is_operand fs h.1) (omega arith)
operands_in f fs h i e lt = absurd (cc)

steps_in : (f : NodeForm) (fs : List NodeForm) → Stand (parts_asked f) fs → same_form form.ForSteps f ≡ true → 0 < length fs
steps_in form.ForSteps [] h e = absurd h
steps_in form.ForSteps (f ∷ fs) h e = omega arith
steps_in f fs h e = absurd (cc)

pub parts_shaped : (root : Term) → AllHaveParts root → Shaped root
parts_shaped root h = record {
  declares = λ k. declares_in (shape_at root k).form (shape_at root k).parts (h k);
  targets = λ k. targets_in (shape_at root k).form (shape_at root k).parts (h k);
  operands = λ k. operands_in (shape_at root k).form (shape_at root k).parts (h k);
  steps = λ k. steps_in (shape_at root k).form (shape_at root k).parts (h k);
}

-- every tree's script
pub script_shaped : (tree : Tree) → Shaped (term 0 (tree_node tree))
script_shaped tree = parts_shaped (term 0 (tree_node tree)) (script_parts tree)
