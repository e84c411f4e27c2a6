-- The rule of functions and statements at the top level, for the calculus.
use Rattle.std.proofs.Common.{◌≡◌, ℕ, ◌+◌, ◌<◌, ◌≤◌, Bool, true, false, Option, Some, None, List, [], ◌∷◌, ◌⊎◌, inl, inr, ⊎_elim, refl, sym, ap, ◌∙◌, subst, arith, le_refl, leb}
use Rattle.std.proofs.lemmas.Bool.{false≢true}
use Rattle.std.proofs.lemmas.Bool.Decides.{nat_tests}
use Rattle.model_syntax.specs.declared.sign.Sign.TheVariants as sign
use Rattle.model_syntax.specs.declared.word.Word.{Word}
use Rattle.model_syntax.specs.declared.word.Word.TheVariants as word
use Rattle.model_syntax.specs.declared.token.TokenKind.{TokenKind}
use Rattle.model_syntax.specs.declared.token.TokenKind.TheVariants as kind
use Rattle.model_syntax.specs.declared.tree.Function.{Function}
use Rattle.model_syntax.specs.declared.tree.Stmt.{Stmt}
use Rattle.model_syntax.specs.declared.tree.Stmt.TheVariants as stmt
use Rattle.model_syntax.specs.declared.tree.Top.{Top}
use Rattle.model_syntax.specs.declared.tree.Top.TheVariants as top
use Rattle.model_syntax.specs.Stream.{Stream, Places, Sees, SeesWord, SeesName, declared}
use Rattle.model_syntax.specs.Lookahead.{is_name}
use Rattle.model_syntax.specs.Grammar.{IsSimple, simple_def, simple_declare, simple_assign, simple_evaluate, simple_return, simple_return_value, simple_break, simple_continue, simple_throw, IsStmt, stmt_if, stmt_while, stmt_for_each, stmt_for_steps, stmt_try_catch, stmt_try_finally, stmt_simple, arm}
use Rattle.model_syntax.specs.Scripts.{result_def, result_void, IsFunction, function, IsTop, top_function, top_statement}
use Rattle.model_syntax.proofs.GrammarLemmas.{begins_expr, whole_begins, assign_begins}
use Rattle.groovy_expr.specs.Answers.{Rule, Exact, Refused}
use Rattle.groovy_expr.specs.Stops.{stops_closed, stops_stmt}
use Rattle.groovy_expr.proofs.Calculus.{Alt, NeverTo, alt_left, alt_right, alt_left_bad, alt_right_bad, Tail, tail_end, tail_fails, inside_none, stronger_ok, stronger_fails}
use Rattle.groovy_expr.proofs.Steps.{Map, step_map}
use Rattle.groovy_expr.proofs.StatementCalculus.{IsRule, rule_ok, rule_bad, long, a_name}
use Rattle.groovy_expr.proofs.StatementBlocks.{Statement, closed}
use Rattle.groovy_expr.proofs.StatementLists.{begins_stmt, stmt_begin}
use Rattle.groovy_parse.specs.Readers.{BeginsFunction, by_void, by_def}
use Rattle.groovy_parse.proofs.FunctionRules.{AFunction, function_past, function_long}
use Rattle.groovy_parse.proofs.ParameterRules.{name_there}
use Rattle.groovy_parse.proofs.Splice.{splice, splice_before, splice_at, cut_inside}

abbrev pub ATop : Places → Rule Top
ATop P K = IsTop K P

-- a statement, with the place of its first token
abbrev Placed : Places → Rule Top
Placed P J y a b = (s : Stmt) × IsStmt J P s a b × (y ≡ top.Statement (P a) s)

abbrev Named : Places → Rule Top
Named P = Map top.Function (AFunction P)

top_in : {P : Places} {J : Stream} {y : Top} {a b : ℕ} → IsTop J P y a b → Alt (Named P) (Placed P) J y a b
top_in (top_function r) = inl (_, r, refl)
top_in (top_statement r) = inr (_, r, refl)

top_out : {P : Places} {J : Stream} {y : Top} {a b : ℕ} → Alt (Named P) (Placed P) J y a b → IsTop J P y a b
top_out {P} {J} {y} {a} {b} r = ⊎_elim
    (λ z. subst (λ t. IsTop J P t a b) (sym z.2) (top_function z.1))
    (λ z. subst (λ t. IsTop J P t a b) (sym z.2) (top_statement z.1)) r

top_rule : (P : Places) → IsRule (ATop P) (Alt (Named P) (Placed P))
top_rule P = record { enter = top_in; leave = top_out }

-- one of two words where the other stands
other_word : {t : Option TokenKind} {v w : Word} → t ≡ Some (kind.Word v) → t ≡ Some (kind.Word w) → Some (kind.Word v) ≡ Some (kind.Word w)
other_word h q = sym h ∙ q

-- what a statement is that begins with `def`
def_simple : {J : Stream} {P : Places} {s : Stmt} {a b : ℕ} → IsSimple J P s a b → SeesWord J a word.Def → (n : List ℕ) × SeesName J (a + 1) n × ((b ≡ a + 1 + 1) ⊎ Sees J (a + 1 + 1) sign.Assign)
def_simple (simple_def w n) h = (_, n, inl refl)
def_simple (simple_declare w n s e) h = (_, n, inr s)
def_simple (simple_assign n r) h = absurd (false≢true (sym (ap begins_expr h) ∙ assign_begins r))
def_simple (simple_evaluate n r) h = absurd (false≢true (sym (ap begins_expr h) ∙ whole_begins r))
def_simple (simple_return w) h = absurd (let e = other_word h w in cc)
def_simple (simple_return_value w r) h = absurd (let e = other_word h w in cc)
def_simple (simple_break w) h = absurd (let e = other_word h w in cc)
def_simple (simple_continue w) h = absurd (let e = other_word h w in cc)
def_simple (simple_throw w r) h = absurd (let e = other_word h w in cc)

def_stmt : {J : Stream} {P : Places} {s : Stmt} {a b : ℕ} → IsStmt J P s a b → SeesWord J a word.Def → (n : List ℕ) × SeesName J (a + 1) n × ((b ≡ a + 1 + 1) ⊎ Sees J (a + 1 + 1) sign.Assign)
def_stmt (stmt_if (arm w o e c k d) ts s) h = absurd (let e = other_word h w in cc)
def_stmt (stmt_while w o e c k d) h = absurd (let e = other_word h w in cc)
def_stmt (stmt_for_each w o e c k d) h = absurd (let e = other_word h w in cc)
def_stmt (stmt_for_steps w o i s e t u c k d) h = absurd (let e = other_word h w in cc)
def_stmt (stmt_try_catch w k d c cs o) h = absurd (let e = other_word h w in cc)
def_stmt (stmt_try_finally w k d f) h = absurd (let e = other_word h w in cc)
def_stmt (stmt_simple r) h = def_simple r h

open_assign : Some (kind.Sign sign.ParenOpen) ≡ Some (kind.Sign sign.Assign) → ⊥
open_assign e = cc

def_void : Some (kind.Word word.Def) ≡ Some (kind.Word word.Void) → ⊥
def_void e = cc

module _ (K : Stream) (P : Places) {at : ℕ} where
  step_placed : Tail (Placed P) (Statement P) stops_stmt K at (λ s. top.Statement (P at) s) at
  step_placed = record {
    after = le_refl at;
    inside = inside_none K at;
    whole = λ J same z b r so. (z, r, refl);
    only = λ J y b same r st. r;
  }

  -- a function begins here
  module _ (begun : BeginsFunction K at) where
    no_statement : {i : ℕ} → (SeesWord K at word.Def → at + 1 + 1 ≤ i) → at ≤ i → NeverTo i (Placed P) stops_stmt K at
    no_statement {i} past from J y b same r st = by begun
      where
        by : BeginsFunction K at → ⊥
        by (by_void w) = false≢true (sym (ap begins_stmt (same at from ∙ w)) ∙ stmt_begin r.1)
        by (by_def w n o) =
            let le = past w in
            let h : Sees J (at + 1 + 1) sign.ParenOpen = same (at + 1 + 1) le ∙ o in
            let q = def_stmt r.1 (same at from ∙ w) in
            ⊎_elim (λ e. false≢true (sym (ap stops_stmt (ap J e ∙ h)) ∙ st)) (λ e. open_assign (sym h ∙ e)) q.2

    pub top_function_ok : {f : Function} {n : ℕ} → Exact (AFunction P) stops_closed K at f n → Exact (ATop P) stops_stmt K at (top.Function f) n
    top_function_ok {f} {n} e =
        let l = function_long K P e in
        rule_ok (top_rule P) (alt_left (Named P) (Placed P) (no_statement (λ w. omega arith) e.after) (tail_end top.Function (step_map top.Function (AFunction P)) (stronger_ok (closed stops_stmt) e)))

    pub top_function_fails : {i : ℕ} → Refused (AFunction P) stops_closed K at i → Refused (ATop P) stops_stmt K at i
    top_function_fails {i} f = rule_bad (top_rule P) (alt_left_bad (Named P) (Placed P) (no_statement (λ w. past begun w) f.from) (tail_fails top.Function (step_map top.Function (AFunction P)) (stronger_fails (closed stops_stmt) f)))
      where
        past : BeginsFunction K at → SeesWord K at word.Def → at + 1 + 1 ≤ i
        past (by_void v) w = absurd (def_void (sym w ∙ v))
        past (by_def v n o) w = function_past K P (result_def w) (name_there (K (at + 1)) n).1 o f

  -- no function begins here
  module _ (other : BeginsFunction K at → ⊥) where
    no_function : {i : ℕ} → at ≤ i → (SeesWord K at word.Def → at + 1 ≤ i) → (SeesWord K at word.Def → (n : List ℕ) → SeesName K (at + 1) n → at + 1 + 1 ≤ i) → NeverTo i (Named P) stops_stmt K at
    no_function {i} from one two J y b same r st = by r.1
      where
        by : {f : Function} {e : ℕ} → IsFunction J P f at e → ⊥
        by (function (result_void w) n o ps c k bl) = other (by_void (sym (same at from) ∙ w))
        by (function {n = n} (result_def w) q o ps c k bl) =
            let first = sym (same at from) ∙ w in
            let second = sym (same (at + 1) (one first)) ∙ q in
            other (by_def first (ap is_name second) (sym (same (at + 1 + 1) (two first n second)) ∙ o))

    pub top_statement_ok : {s : Stmt} {n : ℕ} → Exact (Statement P) stops_stmt K at s n → Exact (ATop P) stops_stmt K at (top.Statement (P at) s) n
    top_statement_ok {s} {n} e = rule_ok (top_rule P) (alt_right (Named P) (Placed P) (no_function e.after (λ w. let l = second w in omega arith) (λ w m q. let l = second w in omega arith)) (tail_end (λ z. top.Statement (P at) z) step_placed e))
      where
        second : SeesWord K at word.Def → at + 1 < n
        second w =
            let lt : at < n = long begins_stmt (λ J y a b r. stmt_begin r) refl refl e in
            let J = splice K n [] in
            let low = splice_before K n [] in
            let past_end : stops_stmt (J n) ≡ true = ap stops_stmt (splice_at K n [] n 0 (omega arith)) in
            let q = def_stmt (e.spelled J low past_end) (low at lt ∙ w) in
            cut_inside K n (at + 1) q.1

    pub top_statement_fails : {i : ℕ} → Refused (Statement P) stops_stmt K at i → Refused (ATop P) stops_stmt K at i
    top_statement_fails {i} f = rule_bad (top_rule P) (alt_right_bad (Named P) (Placed P) (no_function f.from one two) (tail_fails (λ z. top.Statement (P at) z) step_placed f))
      where
        -- `def` and a name are a statement
        one : SeesWord K at word.Def → at + 1 ≤ i
        one w = by_test (leb (at + 1) i) refl
          where
            ending : List TokenKind
            ending = kind.Name a_name ∷ []

            J : Stream
            J = splice K (at + 1) ending

            by_test : (t : Bool) → leb (at + 1) i ≡ t → at + 1 ≤ i
            by_test true e = grind (arith, nat_tests)
            by_test false e =
                let lt : i < at + 1 = grind (arith, nat_tests) in
                absurd (f.never J (stmt.Declare (declared a_name (P (at + 1))) None) (at + 1 + 1) (λ k le. splice_before K (at + 1) ending k (omega arith))
                (stmt_simple (simple_def (splice_before K (at + 1) ending at (omega arith) ∙ w) (splice_at K (at + 1) ending (at + 1) 0 (omega arith))))
                (ap stops_stmt (splice_at K (at + 1) ending (at + 1 + 1) 1 (omega arith))))

        two : SeesWord K at word.Def → (n : List ℕ) → SeesName K (at + 1) n → at + 1 + 1 ≤ i
        two w n q = by_test (leb (at + 1 + 1) i) refl
          where
            J : Stream
            J = splice K (at + 1 + 1) []

            by_test : (t : Bool) → leb (at + 1 + 1) i ≡ t → at + 1 + 1 ≤ i
            by_test true e = grind (arith, nat_tests)
            by_test false e =
                let lt : i < at + 1 + 1 = grind (arith, nat_tests) in
                absurd (f.never J (stmt.Declare (declared n (P (at + 1))) None) (at + 1 + 1) (λ k le. splice_before K (at + 1 + 1) [] k (omega arith))
                (stmt_simple (simple_def (splice_before K (at + 1 + 1) [] at (omega arith) ∙ w) (splice_before K (at + 1 + 1) [] (at + 1) (omega arith) ∙ q)))
                (ap stops_stmt (splice_at K (at + 1 + 1) [] (at + 1 + 1) 0 (omega arith))))

-- what stands at the top level begins so
abbrev pub begins_top : Option TokenKind → Bool
begins_top (Some (kind.Word word.Void)) = true
begins_top t = begins_stmt t

stmt_top : (t : Option TokenKind) → begins_stmt t ≡ true → begins_top t ≡ true
stmt_top (Some (kind.Word word.Void)) e = refl
stmt_top t e = e

pub top_begin : {P : Places} {J : Stream} {y : Top} {a b : ℕ} → IsTop J P y a b → begins_top (J a) ≡ true
top_begin (top_function (function (result_def w) n o ps c k bl)) = ap begins_top w
top_begin (top_function (function (result_void w) n o ps c k bl)) = ap begins_top w
top_begin {P} {J} {y} {a} (top_statement r) = stmt_top (J a) (stmt_begin r)
