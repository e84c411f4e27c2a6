-- `f a` is a call where an expression stands alone, and any other expression is itself there.
use Rattle.std.proofs.Common.{◌≡◌, ℕ, ◌+◌, ◌≤◌, Bool, true, false, Option, Some, None, List, [], ◌∷◌, refl, sym, ap, ◌∙◌, subst, arith, cond, leb, le_refl, le_trans}
use Rattle.std.specs.Prelude.{◌&&◌, not}
use Rattle.std.proofs.lemmas.Bool.{false≢true}
use Rattle.std.proofs.lemmas.Bool.Decides.{nat_tests}
use Rattle.model_syntax.specs.declared.sign.Sign.TheVariants as sign
use Rattle.model_syntax.specs.declared.word.Word.TheVariants as word
use Rattle.model_syntax.specs.declared.token.TokenKind.{TokenKind}
use Rattle.model_syntax.specs.declared.token.TokenKind.TheVariants as kind
use Rattle.model_syntax.specs.declared.tree.Arguments.{Arguments}
use Rattle.model_syntax.specs.declared.tree.Entry.{Entry}
use Rattle.model_syntax.specs.declared.tree.Expr.{Expr}
use Rattle.model_syntax.specs.declared.tree.Expr.TheVariants as expr
use Rattle.model_syntax.specs.Stream.{Stream, Places, Sees, SeesName}
use Rattle.model_syntax.specs.Lookahead.{is_name, is_assign, is_colon, begins_argument, is_call, is_named}
use Rattle.model_syntax.specs.Operators.{rank_whole}
use Rattle.model_syntax.specs.Grammar.{IsExpr, gstring, parts_none, primary_number, primary_text, primary_gstring, primary_true, primary_false, primary_null, primary_name, IsArguments, arguments_named, arguments_ordered, exprs_last, exprs_more, IsNamed, named_by_name, named_by_text, named_last, named_more, IsWhole, whole_call, whole_expr}
use Rattle.model_syntax.proofs.GrammarLemmas.{just, begins_expr, expr_begins}
use Rattle.groovy_expr.specs.Answers.{Rule, Agrees, Exact, Refused}
use Rattle.groovy_expr.specs.Stops.{stops_expr, stops_arguments, stops_simple}
use Rattle.groovy_expr.proofs.Calculus.{Weaker, viable_more, inside_more}
use Rattle.groovy_expr.proofs.StatementCalculus.{FirstIn, long, inside_token}
use Rattle.groovy_expr.proofs.StatementLookahead.{cut, cut_low, cut_high, past, name_expr}

-- what may follow a statement may follow an expression, and arguments
pub simple_expr : Weaker stops_simple stops_expr
simple_expr (Some kind.Newline) e = refl
simple_expr (Some (kind.Sign sign.Semicolon)) e = refl
simple_expr (Some (kind.Sign sign.BraceClose)) e = refl
simple_expr (Some (kind.Sign sign.ParenClose)) e = refl
simple_expr (Some (kind.Word word.Else)) e = refl
simple_expr None e = refl
simple_expr t e = absurd (false≢true e)

pub simple_arguments : Weaker stops_simple stops_arguments
simple_arguments (Some kind.Newline) e = refl
simple_arguments (Some (kind.Sign sign.Semicolon)) e = refl
simple_arguments (Some (kind.Sign sign.BraceClose)) e = refl
simple_arguments (Some (kind.Sign sign.ParenClose)) e = refl
simple_arguments (Some (kind.Word word.Else)) e = refl
simple_arguments None e = refl
simple_arguments t e = absurd (false≢true e)

-- no argument, `=` or `:` follows a statement
pub simple_no_argument : (t : Option TokenKind) → stops_simple t ≡ true → begins_argument t ≡ true → ⊥
simple_no_argument (Some kind.Newline) e f = false≢true f
simple_no_argument (Some (kind.Sign sign.Semicolon)) e f = false≢true f
simple_no_argument (Some (kind.Sign sign.BraceClose)) e f = false≢true f
simple_no_argument (Some (kind.Sign sign.ParenClose)) e f = false≢true f
simple_no_argument (Some (kind.Word word.Else)) e f = false≢true f
simple_no_argument None e f = false≢true f
simple_no_argument t e f = false≢true e

simple_no_colon : (t : Option TokenKind) → stops_simple t ≡ true → is_colon t ≡ false
simple_no_colon (Some (kind.Sign sign.Colon)) e = absurd (false≢true e)
simple_no_colon t e = refl

pub argument_stops : (t : Option TokenKind) → begins_argument t ≡ true → stops_expr t ≡ true
argument_stops (Some (kind.Text t)) e = refl
argument_stops (Some kind.GStringOpen) e = refl
argument_stops (Some (kind.Int v)) e = refl
argument_stops (Some (kind.Name n)) e = refl
argument_stops (Some (kind.Word word.True)) e = refl
argument_stops (Some (kind.Word word.False)) e = refl
argument_stops (Some (kind.Word word.Null)) e = refl
argument_stops t e = absurd (false≢true e)

pub assign_is : (t : Option TokenKind) → is_assign t ≡ true → t ≡ Some (kind.Sign sign.Assign)
assign_is (Some (kind.Sign sign.Assign)) e = refl
assign_is t e = absurd (false≢true e)

pub name_is : (t : Option TokenKind) → is_name t ≡ true → (n : List ℕ) × (t ≡ Some (kind.Name n))
name_is (Some (kind.Name n)) e = (n, refl)
name_is t e = absurd (false≢true e)

-- what is_call says of the tokens from a place on
abbrev pub calls : Stream → ℕ → Bool
calls J a = is_call (J a) (J (a + 1)) (J (a + 1 + 1))

not_and : (b c : Bool) → (c ≡ true → ⊥) → not (b && c) ≡ true
not_and true true h = absurd (h refl)
not_and true false h = refl
not_and false c h = refl

both : (b c : Bool) → b ≡ true → c ≡ true → b && c ≡ true
both b c e f = rw (e, f) refl

pub call_is : (t next third : Option TokenKind) → is_name t ≡ true → begins_argument next ≡ true → (is_name next ≡ true → is_assign third ≡ true → ⊥) → is_call t next third ≡ true
call_is (Some (kind.Name n)) next third g e f = both _ _ e (by_name (is_name next) refl)
  where
    by_name : (b : Bool) → is_name next ≡ b → not (is_name next && is_assign third) ≡ true
    by_name true h = rw h (by_assign (is_assign third) refl)
      where
        by_assign : (b : Bool) → is_assign third ≡ b → not (is_assign third) ≡ true
        by_assign true k = absurd (f h k)
        by_assign false k = rw k refl
    by_name false h = rw h refl
call_is t next third g e f = absurd (false≢true g)

pub call_says : (t next third : Option TokenKind) → is_call t next third ≡ true → (is_name t ≡ true) × (begins_argument next ≡ true) × (is_name next ≡ true → is_assign third ≡ true → ⊥)
call_says (Some (kind.Name n)) next third e = (refl, first (begins_argument next) _ e, λ f g. second (begins_argument next) (is_name next) (is_assign third) e f g)
  where
    first : (b c : Bool) → b && c ≡ true → b ≡ true
    first true c h = refl
    first false c h = h

    second : (b c d : Bool) → b && not (c && d) ≡ true → c ≡ true → d ≡ true → ⊥
    second true true true h f g = false≢true h
    second true true false h f g = false≢true g
    second true false d h f g = false≢true f
    second false c d h f g = false≢true h
call_says t next third e = absurd (false≢true e)

not_call : (t next third : Option TokenKind) → (is_name t ≡ true → begins_argument next ≡ true → ⊥) → is_call t next third ≡ false
not_call t next third f = by_test (is_call t next third) refl
  where
    by_test : (b : Bool) → is_call t next third ≡ b → is_call t next third ≡ false
    by_test true e = let s = call_says t next third e in absurd (f s.0 s.1)
    by_test false e = e

module _ {J : Stream} {P : Places} where
  -- an expression before what may follow a statement is no call of that kind
  pub expr_plain : {x : Expr} {a b : ℕ} → IsExpr J P rank_whole x a b → stops_simple (J b) ≡ true → is_name (J a) ≡ true → begins_argument (J (a + 1)) ≡ true → ⊥
  expr_plain {x} {a} {b} i st n g =
      let m = name_is (J a) n in
      let o = name_expr i m.1 (argument_stops (J (a + 1)) g) in
      simple_no_argument (J b) st (ap begins_argument (ap J o.1) ∙ g)

  pub whole_of_expr : {x : Expr} {a b : ℕ} → IsExpr J P rank_whole x a b → stops_simple (J b) ≡ true → IsWhole J P x a b
  whole_of_expr {x} {a} {b} i st = whole_expr (not_call (J a) (J (a + 1)) (J (a + 1 + 1)) (expr_plain i st)) i

  name_arguments : {args : Arguments} {p e : ℕ} → IsArguments J P args p e → is_name (J p) ≡ true → is_assign (J (p + 1)) ≡ true → e ≡ p + 1
  name_arguments {args} {p} {e} (arguments_named g l) n s =
      let m = name_is (J p) n in
      let z : is_named (J p) (J (p + 1)) ≡ false = ap (λ t. is_named t (J (p + 1))) m.1 ∙ ap (λ t. is_named (Some (kind.Name m.0)) t) (assign_is _ s) in
      absurd (false≢true (sym z ∙ g))
  name_arguments {args} {p} {e} (arguments_ordered g (exprs_last i)) n s =
      (name_expr i (name_is (J p) n).1 (ap stops_expr (assign_is _ s))).1
  name_arguments {args} {p} {e} (arguments_ordered g (exprs_more i c r)) n s =
      let o = name_expr i (name_is (J p) n).1 (ap stops_expr (assign_is _ s)) in
      absurd (let z : Some (kind.Sign sign.Comma) ≡ Some (kind.Sign sign.Assign) = sym c ∙ ap J o.1 ∙ assign_is _ s in cc)

  -- a name with an argument behind it is one
  pub whole_of_call : {n : List ℕ} {args : Arguments} {a b : ℕ} → SeesName J a n → begins_argument (J (a + 1)) ≡ true → IsArguments J P args (a + 1) b → stops_simple (J b) ≡ true → IsWhole J P (expr.Call n args) a b
  whole_of_call {n} {args} {a} {b} h g i st = whole_call (call_is (J a) (J (a + 1)) (J (a + 1 + 1)) (ap is_name h) g (λ f s. no_third f s)) h i
    where
      no_third : is_name (J (a + 1)) ≡ true → is_assign (J (a + 1 + 1)) ≡ true → ⊥
      no_third f s =
          let e = name_arguments i f s in
          false≢true (sym (ap stops_simple (ap J e ∙ assign_is _ s)) ∙ st)

-- the tokens that close a text behind its opening
abbrev closing_of : Option TokenKind → Option TokenKind
closing_of (Some kind.GStringOpen) = Some kind.GStringClose
closing_of t = None

-- what begins an argument is one
argument_alone : (J : Stream) (P : Places) (p : ℕ) (t : Option TokenKind) → begins_argument t ≡ true → J p ≡ t → J (p + 1) ≡ closing_of t → J (p + 1 + 1) ≡ None → (args : Arguments) × (b : ℕ) × IsArguments J P args p b × (stops_arguments (J b) ≡ true)
argument_alone J P p (Some (kind.Text t)) g h c n = (_, p + 1, arguments_ordered (rw (h, c) refl) (exprs_last (just (primary_text h))), ap stops_arguments c)
argument_alone J P p (Some kind.GStringOpen) g h c n = (_, p + 1 + 1, arguments_ordered (rw h refl) (exprs_last (just (primary_gstring (gstring h parts_none c)))), ap stops_arguments n)
argument_alone J P p (Some (kind.Int v)) g h c n = (_, p + 1, arguments_ordered (rw h refl) (exprs_last (just (primary_number h))), ap stops_arguments c)
argument_alone J P p (Some (kind.Name m)) g h c n = (_, p + 1, arguments_ordered (rw (h, c) refl) (exprs_last (just (primary_name h))), ap stops_arguments c)
argument_alone J P p (Some (kind.Word word.True)) g h c n = (_, p + 1, arguments_ordered (rw h refl) (exprs_last (just (primary_true h))), ap stops_arguments c)
argument_alone J P p (Some (kind.Word word.False)) g h c n = (_, p + 1, arguments_ordered (rw h refl) (exprs_last (just (primary_false h))), ap stops_arguments c)
argument_alone J P p (Some (kind.Word word.Null)) g h c n = (_, p + 1, arguments_ordered (rw h refl) (exprs_last (just (primary_null h))), ap stops_arguments c)
argument_alone J P p t g h c n = absurd (false≢true g)

-- so no refusal of arguments lies there
pub past_argument : {K : Stream} {P : Places} {p i : ℕ} → begins_argument (K p) ≡ true → Refused (λ K. IsArguments K P) stops_arguments K p i → p + 1 ≤ i
past_argument {K} {P} {p} {i} g f =
    let tail : Stream = λ k. cond (leb k (p + 1)) (closing_of (K p)) None in
    let J = cut K p tail in
    let one : leb (p + 1) (p + 1) ≡ true = grind (arith, nat_tests) in
    let two : leb (p + 1 + 1) (p + 1) ≡ false = grind (arith, nat_tests) in
    let a = argument_alone J P p (K p) g (cut_low K p tail p (le_refl p)) (cut_high K p tail (p + 1) (omega arith) ∙ ap (λ (t : Bool). cond t (closing_of (K p)) None) one) (cut_high K p tail (p + 1 + 1) (omega arith) ∙ ap (λ (t : Bool). cond t (closing_of (K p)) None) two) in
    past p tail a.0 a.1 a.2 a.3 f

-- nor one of an expression at a name
pub past_name : {K : Stream} {P : Places} {p i : ℕ} → is_name (K p) ≡ true → Refused (λ K. IsExpr K P rank_whole) stops_expr K p i → p + 1 ≤ i
past_name {K} {P} {p} {i} n f =
    let m = name_is (K p) n in
    let tail : Stream = λ k. None in
    past p tail (expr.Variable m.0) (p + 1) (just (primary_name (cut_low K p tail p (le_refl p) ∙ m.1))) (ap stops_expr (cut_high K p tail (p + 1) (omega arith))) f

abbrev pub Expression : Places → Rule Expr
Expression P K = IsExpr K P rank_whole

abbrev pub Args : Places → Rule Arguments
Args P K = IsArguments K P

abbrev pub Whole : Places → Rule Expr
Whole P K = IsWhole K P

pub expression_begins : (P : Places) → FirstIn (Expression P) begins_expr
expression_begins P J y a b i = expr_begins i

named_begins : {J : Stream} {P : Places} {e : Entry} {a b : ℕ} → IsNamed J P e a b → begins_expr (J a) ≡ true
named_begins (named_by_name k c i) = ap begins_expr k
named_begins (named_by_text k c i) = ap begins_expr k

arguments_begins : {J : Stream} {P : Places} {args : Arguments} {a b : ℕ} → IsArguments J P args a b → begins_expr (J a) ≡ true
arguments_begins (arguments_named g (named_last i)) = named_begins i
arguments_begins (arguments_named g (named_more i c r)) = named_begins i
arguments_begins (arguments_ordered g (exprs_last i)) = expr_begins i
arguments_begins (arguments_ordered g (exprs_more i c r)) = expr_begins i

pub arguments_begin : (P : Places) → FirstIn (Args P) begins_expr
arguments_begin P J y a b i = arguments_begins i

module _ (K : Stream) (P : Places) {at : ℕ} where
  -- a call without parentheses
  module _ {n : List ℕ} (h : SeesName K at n) (c : calls K at ≡ true) where
    whole_args : {J : Stream} {y : Expr} {b : ℕ} → IsWhole J P y at b → Agrees (at + 1 + 1) J K → (args : Arguments) × IsArguments J P args (at + 1) b × (y ≡ expr.Call n args)
    whole_args (whole_call {n = m} {args = args} g k i) same = (args, i, ap (λ x. expr.Call x args) (same_name m n (sym k ∙ same at (omega arith) ∙ h)))
      where
        same_name : (m n : List ℕ) → Some (kind.Name m) ≡ Some (kind.Name n) → m ≡ n
        same_name m n e = cc
    whole_args {J} (whole_expr g i) same =
        let e : calls J at ≡ calls K at = rw (same at (omega arith), same (at + 1) (omega arith), same (at + 1 + 1) (omega arith)) refl in
        absurd (false≢true (sym g ∙ e ∙ c))

    argument : begins_argument (K (at + 1)) ≡ true
    argument = (call_says (K at) (K (at + 1)) (K (at + 1 + 1)) c).1

    pub whole_call_ok : {args : Arguments} {m : ℕ} → Exact (Args P) stops_arguments K (at + 1) args m → Exact (Whole P) stops_simple K at (expr.Call n args) m
    whole_call_ok {args} {m} e =
        let far : at + 1 + 1 ≤ m = (let l = long begins_expr (arguments_begin P) refl refl e in omega arith) in
        record {
          after = omega arith;
          inside = inside_more K (kind.Name n) at m h e.inside;
          spelled = λ J same st. whole_of_call (same at (omega arith) ∙ h) (ap begins_argument (same (at + 1) (omega arith)) ∙ argument) (e.spelled J same (simple_arguments (J m) st)) st;
          only = λ J y b same r st.
              let w = whole_args r (λ k l. same k (le_trans l far)) in
              let o = e.only J w.0 b same w.1 (simple_arguments (J b) st) in
              (w.2 ∙ ap (expr.Call n) o.0, o.1);
        }

    pub whole_call_fails : {i : ℕ} → Refused (Args P) stops_arguments K (at + 1) i → Refused (Whole P) stops_simple K at i
    whole_call_fails {i} f =
        let far : at + 1 + 1 ≤ i = past_argument argument f in
        record {
          from = omega arith;
          inside = inside_more K (kind.Name n) at i h f.inside;
          never = λ J y b same r st. let w = whole_args r (λ k l. same k (le_trans l far)) in f.never J w.0 b same w.1 (simple_arguments (J b) st);
          viable = viable_more simple_arguments (λ J e same ok v. (expr.Call n v.0, whole_of_call (same at (omega arith) ∙ h) (ap begins_argument (same (at + 1) (omega arith)) ∙ argument) v.1 ok)) f.viable;
        }

  -- an expression
  module _ (plain : is_name (K at) ≡ true → begins_argument (K (at + 1)) ≡ true → ⊥) where
    whole_is_expr : {J : Stream} {y : Expr} {b : ℕ} → IsWhole J P y at b → J at ≡ K at → (is_name (K at) ≡ true → J (at + 1) ≡ K (at + 1)) → IsExpr J P rank_whole y at b
    whole_is_expr (whole_expr g i) here next = i
    whole_is_expr {J} (whole_call g k i) here next =
        let s = call_says (J at) (J (at + 1)) (J (at + 1 + 1)) g in
        let n : is_name (K at) ≡ true = sym (ap is_name here) ∙ s.0 in
        absurd (plain n (sym (ap begins_argument (next n)) ∙ s.1))

    pub whole_expr_ok : {x : Expr} {m : ℕ} → Exact (Expression P) stops_expr K at x m → Exact (Whole P) stops_simple K at x m
    whole_expr_ok {x} {m} e = let far = long begins_expr (expression_begins P) refl refl e in record {
      after = e.after;
      inside = e.inside;
      spelled = λ J same st. whole_of_expr (e.spelled J same (simple_expr (J m) st)) st;
      only = λ J y b same r st. e.only J y b same (whole_is_expr r (same at e.after) (λ n. same (at + 1) (omega arith))) (simple_expr (J b) st);
    }

    pub whole_expr_fails : {i : ℕ} → Refused (Expression P) stops_expr K at i → Refused (Whole P) stops_simple K at i
    whole_expr_fails {i} f = record {
      from = f.from;
      inside = f.inside;
      never = λ J y b same r st. f.never J y b same (whole_is_expr r (same at f.from) (λ n. same (at + 1) (past_name n f))) (simple_expr (J b) st);
      viable = viable_more simple_expr (λ J e same ok v. (v.0, whole_of_expr v.1 ok)) f.viable;
    }

  -- `f x =` is neither
  pub whole_typed : {n m : List ℕ} → SeesName K at n → SeesName K (at + 1) m → Sees K (at + 1 + 1) sign.Assign → Refused (Whole P) stops_simple K at (at + 1 + 1)
  whole_typed {n} {m} h g s = record {
    from = omega arith;
    inside = inside_more K (kind.Name n) at (at + 1 + 1) h (inside_token K (kind.Name m) (at + 1) g);
    never = λ J y b same r st. no_whole r same st;
    viable = record {
      closing = [];
      closes = λ J e same o ok.
          let k : J (at + 1) ≡ Some (kind.Name m) = same (at + 1) (omega arith) ∙ g in
          let c : is_named (J (at + 1)) (J (at + 1 + 1)) ≡ false = ap (λ t. is_named t (J (at + 1 + 1))) k ∙ simple_no_colon (J (at + 1 + 1)) (ap stops_simple (ap J (sym o)) ∙ ok) in
          let args : Arguments = record { named = []; ordered = expr.Variable m ∷ [] } in
          (expr.Call n args, subst (λ z. IsWhole J P (expr.Call n args) at z) (sym o) (whole_of_call (same at (omega arith) ∙ h) (ap begins_argument k) (arguments_ordered c (exprs_last (just (primary_name k)))) (ap stops_simple (ap J (sym o)) ∙ ok)));
    };
  }
    where
      no_whole : {J : Stream} {y : Expr} {b : ℕ} → IsWhole J P y at b → Agrees (at + 1 + 1) J K → stops_simple (J b) ≡ true → ⊥
      no_whole {J} (whole_call c k i) same st =
          (call_says (J at) (J (at + 1)) (J (at + 1 + 1)) c).2 (ap is_name (same (at + 1) (omega arith) ∙ g)) (ap is_assign (same (at + 1 + 1) (omega arith) ∙ s))
      no_whole {J} {y} {b} (whole_expr c i) same st =
          expr_plain i st (ap is_name (same at (omega arith) ∙ h)) (ap begins_argument (same (at + 1) (omega arith) ∙ g))
