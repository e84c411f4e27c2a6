-- What rows of marks change, one behind the other.
use Rattle.std.proofs.Common.{◌≡◌, Result, OnOk, subst, ℕ, ◌+◌, ◌<◌, ◌≤◌, suc, true, false, List, [], ◌∷◌, ◌++◌, map, length, get_or, drop, refl, sym, ap, ◌∙◌, add-one, drop-cons}
use Rattle.std.proofs.lemmas.List.{drop_all}
use Rattle.model_syntax.specs.declared.place.Declared.{Declared}
use Rattle.model_syntax.specs.declared.tree.Arguments.{Arguments}
use Rattle.model_syntax.specs.declared.tree.Arm.{Arm}
use Rattle.model_syntax.specs.declared.tree.Catch.{Catch}
use Rattle.model_syntax.specs.declared.tree.Operand.{Operand}
use Rattle.model_syntax.specs.Scopes.{Mark, Marks, all, block, loop, callable, declares, declares_it, scope_ends, arm_marks, catch_marks, operand_marks, arguments_marks, entry_marks, expr_marks, stmt_marks}
use Rattle.model_syntax.proofs.ScopeLaws.{arm-is, catch-is, operand-is, arguments-is}
use Rattle.scope_check.specs.declared.scopes.Scopes.{Scopes}
use Rattle.scope_check.specs.Walk.{walked, after, open_scope, close_scope, declare_name, declare_it}

pub walked-none : (s : Scopes) → walked [] s ≡ s
unfolding walked
walked-none s = refl

pub walked-one : (m : Mark) (s : Scopes) → walked (m ∷ []) s ≡ after m s
unfolding walked
walked-one m s = refl

pub walked-more : (m : Mark) (ms : Marks) (s : Scopes) → walked (m ∷ ms) s ≡ walked ms (after m s)
unfolding walked
walked-more m ms s = refl

pub walked-append : (a b : Marks) (s : Scopes) → walked (a ++ b) s ≡ walked b (walked a s)
unfolding walked
walked-append [] b s = refl
walked-append (m ∷ a) b s = walked-append a b (after m s)

-- Marks in a scope.
walked-ended : (ms : Marks) (s : Scopes) → walked (ms ++ scope_ends ∷ []) s ≡ close_scope (walked ms s)
walked-ended ms s = walked-append ms (scope_ends ∷ []) s ∙ walked-one scope_ends (walked ms s)

pub walked-block : (ss : List Marks) (s : Scopes) → walked (block ss) s ≡ close_scope (walked (all ss) (open_scope s.inner.in_loop s))
unfolding walked
walked-block ss s = walked-ended (all ss) (open_scope s.inner.in_loop s)

pub walked-loop : (ss : List Marks) (s : Scopes) → walked (loop ss) s ≡ close_scope (walked (all ss) (open_scope true s))
unfolding walked
walked-loop ss s = walked-ended (all ss) (open_scope true s)

pub walked-callable : (ps ms : Marks) (s : Scopes) → walked (callable ps ms) s ≡ close_scope (walked ms (walked ps (open_scope false s)))
unfolding walked
walked-callable ps ms s =
    walked-append ps (ms ++ scope_ends ∷ []) (open_scope false s)
    ∙ walked-ended ms (walked ps (open_scope false s))

-- A closure without heads.
pub walked-with_it : (ms : Marks) (s : Scopes) → walked (callable (declares_it ∷ []) ms) s ≡ close_scope (walked ms (declare_it (open_scope false s)))
walked-with_it ms s = walked-callable (declares_it ∷ []) ms s ∙ ap (λ t. close_scope (walked ms t)) (walked-one declares_it (open_scope false s))

-- One row of marks behind another.
pub walked-then : (a b : Marks) (s : Scopes) {t u : Scopes} → t ≡ walked a s → u ≡ walked b t → u ≡ walked (a ++ b) s
walked-then a b s e f = f ∙ ap (walked b) e ∙ sym (walked-append a b s)

-- The same, where the last part may be refused.
module _ {E : Type 0} (r : Result (Unit {0}) E) where
  pub walked-last : (a b : Marks) (s u : Scopes) {t : Scopes} → t ≡ walked a s → OnOk r (u ≡ walked b t) → OnOk r (u ≡ walked (a ++ b) s)
  walked-last a b s u e h = subst (λ v. OnOk r (u ≡ v)) (ap (walked b) e ∙ sym (walked-append a b s)) h

  pub walked-behind : (m : Mark) (ms : Marks) (s u : Scopes) {t : Scopes} → t ≡ after m s → OnOk r (u ≡ walked ms t) → OnOk r (u ≡ walked (m ∷ ms) s)
  walked-behind m ms s u e h = subst (λ v. OnOk r (u ≡ v)) (ap (walked ms) e ∙ sym (walked-more m ms s)) h

-- The scope of a catch: its name and its statements.
pub walked-catch : (d : Declared) (ss : List Marks) (s : Scopes) {a b c u : Scopes}
    → a ≡ open_scope s.inner.in_loop s → b ≡ declare_name d a → c ≡ walked (all ss) b → u ≡ close_scope c
    → u ≡ walked (block ((declares d ∷ []) ∷ ss)) s
walked-catch d ss s opened declared walks closed =
    closed ∙ ap close_scope (walks ∙ ap (walked (all ss)) (declared ∙ ap (declare_name d) opened ∙ sym (walked-one (declares d) _)) ∙ sym (walked-append (declares d ∷ []) (all ss) _))
    ∙ sym (walked-block ((declares d ∷ []) ∷ ss) s)

-- The scope of a `for` over elements: its name, the elements and the body.
pub walked-for_each : (d : Declared) (e l : Marks) (s : Scopes) {a b c f u : Scopes}
    → a ≡ open_scope s.inner.in_loop s → b ≡ declare_name d a → c ≡ walked e b → f ≡ walked l c → u ≡ close_scope f
    → u ≡ walked (block ((declares d ∷ []) ∷ e ∷ l ∷ [])) s
walked-for_each d e l s opened declared first last closed =
    walked-catch d (e ∷ l ∷ []) s opened declared (walked-then e (l ++ []) _ first (walked-then l [] _ last (sym (walked-none _)))) closed

-- The scope of a `for` with steps: its first part, its test, its step and the body.
pub walked-for_steps : (i e p l : Marks) (s : Scopes) {a b c f g u : Scopes}
    → a ≡ open_scope s.inner.in_loop s → b ≡ walked i a → c ≡ walked e b → f ≡ walked p c → g ≡ walked l f → u ≡ close_scope g
    → u ≡ walked (block (i ∷ e ∷ p ∷ l ∷ [])) s
walked-for_steps i e p l s opened first test step body closed =
    closed
    ∙ ap close_scope (walked-then i (e ++ (p ++ (l ++ []))) _ first (walked-then e (p ++ (l ++ [])) _ test (walked-then p (l ++ []) _ step (walked-then l [] _ body (sym (walked-none _))))) ∙ ap (walked (all (i ∷ e ∷ p ∷ l ∷ []))) opened)
    ∙ sym (walked-block (i ∷ e ∷ p ∷ l ∷ []) s)

-- The scope of a `for` with steps and a declaration: its name and value, its test, its step and the body.
pub walked-for_declared : (d : Declared) (v e p l : Marks) (s : Scopes) {a b c f g h u : Scopes}
    → a ≡ open_scope s.inner.in_loop s → b ≡ declare_name d a → c ≡ walked v b → f ≡ walked e c → g ≡ walked p f → h ≡ walked l g → u ≡ close_scope h
    → u ≡ walked (block ((declares d ∷ v) ∷ e ∷ p ∷ l ∷ [])) s
walked-for_declared d v e p l s {a = a} opened declared value test step body closed =
    walked-for_steps (declares d ∷ v) e p l s opened (value ∙ ap (walked v) declared ∙ sym (walked-more (declares d) v a)) test step body closed

-- A loop over a list walks the marks of its elements.
module _ {A : Type 0} (f : A → Marks) (xs : List A) (i : ℕ) (s : Scopes) where
  pub walked-next : (x : A) → x ≡ get_or xs i x → i < length xs → walked (all (map f (drop i xs))) s ≡ walked (all (map f (drop (i + 1) xs))) (walked (f x) s)
  walked-next x is within =
      ap (λ ys. walked (all (map f ys)) s) (drop-cons xs i x within)
      ∙ ap (λ y. walked (f y ++ all (map f (drop (suc i) xs))) s) (sym is)
      ∙ walked-append (f x) (all (map f (drop (suc i) xs))) s
      ∙ ap (λ k. walked (all (map f (drop k xs))) (walked (f x) s)) (sym (add-one i))

  pub walked-step : (x : A) {t g : Scopes} → x ≡ get_or xs i x → i < length xs → t ≡ walked (f x) s → walked (all (map f (drop i xs))) s ≡ g → walked (all (map f (drop (i + 1) xs))) t ≡ g
  walked-step x is within one rest = ap (walked (all (map f (drop (i + 1) xs)))) one ∙ sym (walked-next x is within) ∙ rest

  pub walked-done : {g : Scopes} → length xs ≤ i → walked (all (map f (drop i xs))) s ≡ g → s ≡ g
  walked-done behind rest = sym (ap (λ ys. walked (all (map f ys)) s) (drop_all i xs behind) ∙ walked-none s) ∙ rest

-- The marks of a record of a tree, from its fields.
pub marks-Arm : (a : Arm) → arm_marks a ≡ expr_marks a.test ++ block (map stmt_marks a.body)
marks-Arm a = arm-is a.test a.body

pub marks-Catch : (c : Catch) → catch_marks c ≡ block ((declares c.name ∷ []) ∷ map stmt_marks c.body)
marks-Catch c = catch-is c.caught c.name c.body

pub marks-Operand : (o : Operand) → operand_marks o ≡ expr_marks o.value
marks-Operand o = operand-is o.operator o.value

pub marks-Arguments : (a : Arguments) → arguments_marks a ≡ all (map entry_marks a.named) ++ all (map expr_marks a.ordered)
marks-Arguments a = arguments-is a.named a.ordered

-- A parameter as a row of one mark.
abbrev pub declared_one : Declared → Marks
declared_one d = declares d ∷ []

pub all-declared_one : (ds : List Declared) → all (map declared_one ds) ≡ map declares ds
all-declared_one [] = refl
all-declared_one (d ∷ ds) = ap (λ ms. declares d ∷ ms) (all-declared_one ds)

pub ruleset walking = (walked-none, walked-one, walked-append, walked-block, walked-loop, walked-callable, walked-with_it)
