-- An answer other than `Memory` is the only one: two trees are one, two faults are one, and there is no tree and a fault.
use Rattle.std.proofs.Common.{◌≡◌, ◌≢◌, ℕ, suc, zero, ◌+◌, ◌-◌, ◌<◌, ◌≤◌, Bool, true, false, Option, Some, None, List, [], Result, Ok, Err, refl, sym, ap, ◌∙◌, subst, arith, le_refl}
use Rattle.std.proofs.lemmas.Bool.{false≢true}
use Rattle.model_syntax.specs.declared.token.Token.{Token}
use Rattle.model_syntax.specs.declared.token.TokenKind.{TokenKind}
use Rattle.model_syntax.specs.declared.tree.Expr.{Expr}
use Rattle.model_syntax.specs.Stream.{Stream}
use Rattle.expr_parser.specs.declared.refusal.ExprRefusal.{ExprRefusal}
use Rattle.expr_parser.specs.declared.refusal.ExprRefusal.TheVariants as refusal
use Rattle.groovy_expr.specs.Answers.{Rule, Stops, Stands, Exact, Refused}
use Rattle.expr_parser.specs.Parsing.{ReadsNext}
use Rattle.groovy_expr.proofs.StatementFors.{goes_past}

module _ {A : Type 0} {R : Rule A} {stops : Stops} {K : Stream} {at : ℕ} where
  -- where no token that may follow stands behind a tree, that token is the fault
  pub stopped : {x : A} {n : ℕ} → Exact R stops K at x n → stops (K n) ≡ false → Refused R stops K at n
  stopped {x} {n} e h = record {
    from = e.after;
    inside = e.inside;
    never = λ J y b same r st.
        let o = e.only J y b same r st in
        false≢true (sym h ∙ ap stops (sym (same n (le_refl n))) ∙ ap (λ k. stops (J k)) (sym o.1) ∙ st);
    viable = record {
      closing = [];
      closes = λ J m same st so. (x, subst (λ k. R J x at k) (sym st) (e.spelled J same (ap (λ k. stops (J k)) (sym st) ∙ so)));
    };
  }

  -- no tree that ends, and a fault
  pub read_or_refused : {x : A} {n i : ℕ} → Exact R stops K at x n → stops (K n) ≡ true → Refused R stops K at i → ⊥
  read_or_refused {x} {n} e h f = f.never K x n (λ k l. refl) (e.spelled K (λ k l. refl) h) h

  -- one tree that ends
  pub one_tree : {x y : A} {m n : ℕ} → Exact R stops K at x m → stops (K m) ≡ true → Exact R stops K at y n → (x ≡ y) × (m ≡ n)
  one_tree {x} {y} {m} e h f = f.only K x m (λ k l. refl) (e.spelled K (λ k l. refl) h) h

  -- one fault
  not_before : stops None ≡ true → {i : ℕ} (j : ℕ) → Refused R stops K at i → Refused R stops K at j → j ≤ i
  not_before none zero f g = omega arith
  not_before none {i} (suc j) f g =
      let le : j + 1 ≤ i = goes_past j g.viable.closing none (λ J same e st end. g.viable.closes J e (λ k l. same k (omega arith)) (subst (λ k. Stands J k g.viable.closing e) (let q : j + 1 ≡ suc j = omega arith in q) st) (ap stops end ∙ none)) f in
      omega arith

  pub one_fault : stops None ≡ true → {i j : ℕ} → Refused R stops K at i → Refused R stops K at j → i ≡ j
  one_fault none {i} {j} f g =
      let le : j ≤ i = not_before none j f g in
      let ge : i ≤ j = not_before none i g f in
      omega arith

-- What a parser answers at a place, if it is not for want of memory, is the only answer there.
pub one_answer : (ts : List Token) (from m n : ℕ) (r q : Result Expr ExprRefusal) → r ≢ Err refusal.Memory → q ≢ Err refusal.Memory → ReadsNext ts from m r → ReadsNext ts from n q → (r ≡ q) × (m ≡ n)
one_answer ts from m n (Ok x) (Ok y) f g a b = let o = one_tree a.0 a.1 b.0 in (ap Ok o.0, o.1)
one_answer ts from m n (Ok x) (Err (refusal.Fault i)) f g a b = absurd (read_or_refused a.0 a.1 b.0)
one_answer ts from m n (Err (refusal.Fault i)) (Ok y) f g a b = absurd (read_or_refused b.0 b.1 a.0)
one_answer ts from m n (Err (refusal.Fault i)) (Err (refusal.Fault j)) f g a b = (ap (λ k. Err (refusal.Fault k)) (one_fault refl a.0 b.0), a.1 ∙ sym b.1)
one_answer ts from m n (Err refusal.Memory) q f g a b = absurd (f refl)
one_answer ts from m n r (Err refusal.Memory) f g a b = absurd (g refl)
