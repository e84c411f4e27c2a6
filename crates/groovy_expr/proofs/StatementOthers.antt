-- Statements that begin with an expression, by what one to three tokens say.
use Rattle.std.proofs.Common.{◌≡◌, ℕ, ◌+◌, ◌<◌, ◌≤◌, true, false, Option, Some, None, List, [], ◌∷◌, ◌⊎◌, inl, inr, ⊎_elim, refl, sym, ap, ◌∙◌, subst, arith, le_refl}
use Rattle.std.proofs.lemmas.Bool.{false≢true}
use Rattle.model_syntax.specs.declared.sign.Sign.{Sign}
use Rattle.model_syntax.specs.declared.sign.Sign.TheVariants as sign
use Rattle.model_syntax.specs.declared.word.Word.TheVariants as word
use Rattle.model_syntax.specs.declared.token.TokenKind.{TokenKind}
use Rattle.model_syntax.specs.declared.token.TokenKind.TheVariants as kind
use Rattle.model_syntax.specs.declared.tree.Arguments.{Arguments}
use Rattle.model_syntax.specs.declared.tree.AssignSign.{AssignSign}
use Rattle.model_syntax.specs.declared.tree.Assignment.{Assignment}
use Rattle.model_syntax.specs.declared.tree.Expr.{Expr}
use Rattle.model_syntax.specs.declared.tree.Expr.TheVariants as expr
use Rattle.model_syntax.specs.declared.tree.Stmt.{Stmt}
use Rattle.model_syntax.specs.declared.tree.Stmt.TheVariants as stmt
use Rattle.model_syntax.specs.declared.tree.Target.{Target}
use Rattle.model_syntax.specs.Stream.{Stream, Places, Sees, SeesName}
use Rattle.model_syntax.specs.Lookahead.{is_name, begins_argument, is_named}
use Rattle.model_syntax.specs.Operators.{assign_sign}
use Rattle.model_syntax.specs.Grammar.{IsWhole, IsArguments, primary_name, arguments_ordered, exprs_last}
use Rattle.model_syntax.proofs.GrammarLemmas.{just, begins_expr, expr_begins, whole_begins}
use Rattle.groovy_expr.specs.Answers.{Exact, Refused}
use Rattle.groovy_expr.specs.Stops.{stops_expr, stops_simple}
use Rattle.groovy_expr.specs.Statements.{SeesTyped, is_open}
use Rattle.groovy_expr.specs.Targets.{target_of}
use Rattle.groovy_expr.specs.Updates.{is_update}
use Rattle.groovy_expr.proofs.Calculus.{NeverTo, alt_left, alt_left_bad, ret, sub_ok, sub_fails, fills_ret, alike}
use Rattle.groovy_expr.proofs.StatementCalculus.{long}
use Rattle.groovy_expr.proofs.StatementWhole.{Expression, Whole, calls, call_is, call_says, name_is, past_name, whole_of_call, whole_of_expr}
use Rattle.groovy_expr.proofs.StatementSimple.{Simple, Update, Assigned, Evaluated, Evaluation, assign_second, whole_leads, evaluation_fails, evaluation_ok, evaluation_assign_ok, evaluation_assign_fails, evaluation_no_target, is_other, other_ok, other_fails, name_ok, name_fails}
use Rattle.groovy_expr.proofs.StatementFors.{Continues, goes_past, reaches}

-- neither a call nor a type with a name and `=`
pub plain_is : (K : Stream) {at : ℕ} → calls K at ≡ false → (SeesTyped K at → ⊥) → is_name (K at) ≡ true → begins_argument (K (at + 1)) ≡ true → ⊥
plain_is K {at} c f n b = false≢true (sym c ∙ call_is (K at) (K (at + 1)) (K (at + 1 + 1)) n b (λ m s. f (record { type = n; name = m; sign = s })))

-- no sign of an update
pub no_update : (K : Stream) {at : ℕ} → (Sees K at sign.Increment → ⊥) → (Sees K at sign.Decrement → ⊥) → ((s : Sign) (o : AssignSign) → Sees K at s → assign_sign s ≡ Some o → ⊥) → is_update (K at) ≡ false
no_update K {at} f g h = by_token (K at) f g h
  where
    by_token : (t : Option TokenKind) → (t ≡ Some (kind.Sign sign.Increment) → ⊥) → (t ≡ Some (kind.Sign sign.Decrement) → ⊥) → ((s : Sign) (o : AssignSign) → t ≡ Some (kind.Sign s) → assign_sign s ≡ Some o → ⊥) → is_update t ≡ false
    by_token (Some (kind.Sign sign.Assign)) f g h = absurd (h sign.Assign _ refl refl)
    by_token (Some (kind.Sign sign.PlusAssign)) f g h = absurd (h sign.PlusAssign _ refl refl)
    by_token (Some (kind.Sign sign.MinusAssign)) f g h = absurd (h sign.MinusAssign _ refl refl)
    by_token (Some (kind.Sign sign.TimesAssign)) f g h = absurd (h sign.TimesAssign _ refl refl)
    by_token (Some (kind.Sign sign.ModAssign)) f g h = absurd (h sign.ModAssign _ refl refl)
    by_token (Some (kind.Sign sign.Increment)) f g h = absurd (f refl)
    by_token (Some (kind.Sign sign.Decrement)) f g h = absurd (g refl)
    by_token t f g h = refl

-- what begins with no word of its own: a name, or another expression
open_is : (t : Option TokenKind) → is_open t ≡ true → (t ≡ Some (kind.Sign sign.BraceOpen) → ⊥) → ((n : List ℕ) × (t ≡ Some (kind.Name n))) ⊎ (is_other t ≡ true)
open_is (Some (kind.Word word.Def)) o f = absurd (false≢true o)
open_is (Some (kind.Word word.Return)) o f = absurd (false≢true o)
open_is (Some (kind.Word word.Break)) o f = absurd (false≢true o)
open_is (Some (kind.Word word.Continue)) o f = absurd (false≢true o)
open_is (Some (kind.Word word.Throw)) o f = absurd (false≢true o)
open_is (Some (kind.Sign sign.BraceOpen)) o f = absurd (f refl)
open_is (Some (kind.Name n)) o f = inl (n, refl)
open_is t o f = inr refl

module _ (K : Stream) (P : Places) {at : ℕ} (o : is_open (K at) ≡ true) (f : Sees K at sign.BraceOpen → ⊥) (g : SeesTyped K at → ⊥) where
  open_ok : {y : Stmt} {m : ℕ} → at < m → (is_name (K (at + 1)) ≡ true → is_name (K at) ≡ true → at + 1 + 1 ≤ m) → Exact (Evaluation P) stops_simple K at y m → Exact (Simple P) stops_simple K at y m
  open_ok lt far e = ⊎_elim
      (λ z. name_ok K P z.1 (λ n s. g (record { type = ap is_name z.1; name = n; sign = s })) (omega arith) (λ n. far n (ap is_name z.1)) e)
      (λ z. other_ok K P z lt e)
      (open_is (K at) o f)

  open_fails : {i : ℕ} → (is_name (K at) ≡ true → at + 1 ≤ i) → (is_name (K (at + 1)) ≡ true → is_name (K at) ≡ true → at + 1 + 1 ≤ i) → Refused (Evaluation P) stops_simple K at i → Refused (Simple P) stops_simple K at i
  open_fails le far e = ⊎_elim
      (λ z. name_fails K P z.1 (λ n s. g (record { type = ap is_name z.1; name = n; sign = s })) (le (ap is_name z.1)) (λ n. far n (ap is_name z.1)) e)
      (λ z. other_fails K P z e)
      (open_is (K at) o f)

  -- a call without parentheses
  module _ (c : calls K at ≡ true) where
    no_assign : {i : ℕ} → at + 1 ≤ i → NeverTo i (Assigned P) stops_simple K at
    no_assign le J y b same r st =
        let s = call_says (K at) (K (at + 1)) (K (at + 1 + 1)) c in
        assign_second r.2 (ap is_name (same at (omega arith)) ∙ s.0) (ap begins_argument (same (at + 1) le) ∙ s.1)

    named : (k : is_name (K at) ≡ true) (J : Stream) → J at ≡ K at → SeesName J at (name_is (K at) k).0
    named k J same = same ∙ (name_is (K at) k).1

    -- the name alone is an expression
    alone : (k : is_name (K at) ≡ true) → Continues (Whole P) K at at []
    alone k J same e st end =
        let x : Expr = expr.Variable (name_is (K at) k).0 in
        (x, subst (λ z. IsWhole J P x at z) (sym st) (whole_of_expr (just (primary_name (named k J (same at (le_refl _))))) (ap stops_simple (sym (ap J st) ∙ end))))

    -- the name and the name behind it are a call
    paired : (k : is_name (K at) ≡ true) → is_name (K (at + 1)) ≡ true → Continues (Whole P) K at (at + 1) []
    paired k n J same e st end =
        let g : SeesName J (at + 1) (name_is (K (at + 1)) n).0 = same (at + 1) (le_refl _) ∙ (name_is (K (at + 1)) n).1 in
        let none : J (at + 1 + 1) ≡ None = sym (ap J st) ∙ end in
        let args : Arguments = record { named = []; ordered = expr.Variable (name_is (K (at + 1)) n).0 ∷ [] } in
        let x : Expr = expr.Call (name_is (K at) k).0 args in
        let bare : is_named (J (at + 1)) (J (at + 1 + 1)) ≡ false = rw (g, none) refl in
        let i : IsArguments J P args (at + 1) (at + 1 + 1) = arguments_ordered bare (exprs_last (just (primary_name g))) in
        (x, subst (λ z. IsWhole J P x at z) (sym st) (whole_of_call (named k J (same at (omega arith))) (ap begins_argument g) i (ap stops_simple none)))

    pub other_call_ok : {x : Expr} {m : ℕ} → Exact (Whole P) stops_simple K at x m → Exact (Simple P) stops_simple K at (stmt.Evaluate x) m
    other_call_ok {x} {m} e =
        let lt = long begins_expr (λ J y a b r. whole_begins r) refl refl e in
        open_ok lt (λ n k. reaches (at + 1) [] refl (paired k n) e)
        (alt_left (Evaluated P) (Assigned P) (no_assign (omega arith)) (sub_ok K (whole_leads stmt.Evaluate) e (ret stops_simple K _ _)))

    pub other_call_fails : {i : ℕ} → Refused (Whole P) stops_simple K at i → Refused (Simple P) stops_simple K at i
    other_call_fails {i} d =
        let le : at + 1 ≤ i = goes_past at [] refl (alone (call_says (K at) (K (at + 1)) (K (at + 1 + 1)) c).0) d in
        open_fails (λ k. le) (λ n k. goes_past (at + 1) [] refl (paired k n) d)
        (alt_left_bad (Evaluated P) (Assigned P) (no_assign le) (sub_fails K (whole_leads stmt.Evaluate) (fills_ret stmt.Evaluate (alike _)) d))

  -- an expression, and what may make it an assignment
  module _ (plain : is_name (K at) ≡ true → begins_argument (K (at + 1)) ≡ true → ⊥) where
    no_name : {m : ℕ} → is_name (K (at + 1)) ≡ true → is_name (K at) ≡ true → at + 1 + 1 ≤ m
    no_name n k = absurd (plain k (ap begins_argument (name_is (K (at + 1)) n).1))

    pub other_expr_fails : {i : ℕ} → Refused (Expression P) stops_expr K at i → Refused (Simple P) stops_simple K at i
    other_expr_fails d = open_fails (λ k. past_name k d) no_name (evaluation_fails K P plain d)

    module _ {x : Expr} {m : ℕ} (e : Exact (Expression P) stops_expr K at x m) where
      ahead : at < m
      ahead = long begins_expr (λ J y a b r. expr_begins r) refl refl e

      pub other_expr_ok : is_update (K m) ≡ false → Exact (Simple P) stops_simple K at (stmt.Evaluate x) m
      other_expr_ok u = open_ok ahead no_name (evaluation_ok K P plain e u)

      module _ (u : is_update (K m) ≡ true) where
        pub other_no_target : target_of x ≡ None → Refused (Simple P) stops_simple K at m
        other_no_target t = let lt = ahead in open_fails (λ k. omega arith) no_name (evaluation_no_target K P plain e u t)

        pub other_update_ok : {t : Target} {y : Assignment} {n : ℕ} → target_of x ≡ Some t → Exact (Update P t) stops_simple K m y n → Exact (Simple P) stops_simple K at (stmt.Assign y) n
        other_update_ok h d = let lt = ahead in let le = d.after in open_ok (omega arith) no_name (evaluation_assign_ok K P plain e u h d)

        pub other_update_fails : {t : Target} {i : ℕ} → target_of x ≡ Some t → Refused (Update P t) stops_simple K m i → Refused (Simple P) stops_simple K at i
        other_update_fails h d = let lt = ahead in let le = d.from in open_fails (λ k. omega arith) no_name (evaluation_assign_fails K P plain e u h d)
