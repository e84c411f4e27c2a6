-- What one to three tokens decide of an expression, and how far a refusal lies from them.
use Rattle.std.proofs.Common.{◌≡◌, ℕ, ◌+◌, ◌<◌, ◌≤◌, Bool, true, false, Some, None, List, refl, sym, ap, ◌∙◌, arith, cond, leb, le_trans}
use Rattle.std.proofs.lemmas.Bool.{false≢true}
use Rattle.std.proofs.lemmas.Bool.Decides.{nat_tests}
use Rattle.model_syntax.specs.declared.sign.Sign.{Sign}
use Rattle.model_syntax.specs.declared.sign.Sign.TheVariants as sign
use Rattle.model_syntax.specs.declared.token.TokenKind.{TokenKind}
use Rattle.model_syntax.specs.declared.token.TokenKind.TheVariants as kind
use Rattle.model_syntax.specs.declared.tree.Arguments.{Arguments}
use Rattle.model_syntax.specs.declared.tree.Expr.{Expr}
use Rattle.model_syntax.specs.declared.tree.Expr.TheVariants as expr
use Rattle.model_syntax.specs.declared.tree.Operator.{Operator}
use Rattle.model_syntax.specs.declared.tree.Suffix.{Suffix}
use Rattle.model_syntax.specs.Stream.{Stream, Places}
use Rattle.model_syntax.specs.Operators.{Chain, by_or, by_and, Pair, by_equality, by_order, by_range, Terms, by_sum, by_product, Rank, chain_sign, pair_operator, terms_operator, suffixed}
use Rattle.model_syntax.specs.Grammar.{IsExpr, whole, chain, pair_alone, pair, terms, unary, choices_none, choices_true, choices_set, chain_end, chain_more, terms_end, terms_more, prefixes_none, prefixes_more, dot, safe_dot, Suffixes, suffixes_none, suffixes_property, suffixes_method, suffixes_index, IsCall, call_empty, call_some, call_closure, closure_headed, closure_plain, gstring, IsPrimary, primary_number, primary_text, primary_gstring, primary_true, primary_false, primary_null, primary_name, primary_call, primary_group, primary_no_list, primary_list, primary_no_map, primary_map, primary_closure, primary_new, primary_new_with}
use Rattle.groovy_expr.specs.Answers.{Rule, Stops, Refused}
use Rattle.groovy_expr.specs.Stops.{stops_expr}

-- K up to the place p, and behind it another text
abbrev pub cut : Stream → ℕ → Stream → Stream
cut K p tail k = cond (leb k p) (K k) (tail k)

pub cut_low : (K : Stream) (p : ℕ) (tail : Stream) (k : ℕ) → k ≤ p → cut K p tail k ≡ K k
cut_low K p tail k l = let e : leb k p ≡ true = grind (arith, nat_tests) in ap (λ (t : Bool). cond t (K k) (tail k)) e

pub cut_high : (K : Stream) (p : ℕ) (tail : Stream) (k : ℕ) → p < k → cut K p tail k ≡ tail k
cut_high K p tail k l = let e : leb k p ≡ false = grind (arith, nat_tests) in ap (λ (t : Bool). cond t (K k) (tail k)) e

-- where the text through p goes on in some way, no refusal lies at p or before it
pub past : {A : Type 0} {R : Rule A} {stops : Stops} {K : Stream} {at i : ℕ} (p : ℕ) (tail : Stream) (y : A) (b : ℕ) → R (cut K p tail) y at b → stops (cut K p tail b) ≡ true → Refused R stops K at i → p + 1 ≤ i
past {A} {R} {stops} {K} {at} {i} p tail y b r st f = by_test (leb (p + 1) i) refl
  where
    by_test : (t : Bool) → leb (p + 1) i ≡ t → p + 1 ≤ i
    by_test true e = grind (arith, nat_tests)
    by_test false e =
        let le : i ≤ p = grind (arith, nat_tests) in
        absurd (f.never (cut K p tail) y b (λ k l. cut_low K p tail k (le_trans l le)) r st)

-- a sign that goes on with an expression
pair_sign : (l : Pair) (s : Sign) (o : Operator) → pair_operator l s ≡ Some o → stops_expr (Some (kind.Sign s)) ≡ false
pair_sign by_equality sign.Equal o e = refl
pair_sign by_equality sign.NotEqual o e = refl
pair_sign by_order sign.Less o e = refl
pair_sign by_order sign.LessEqual o e = refl
pair_sign by_order sign.Greater o e = refl
pair_sign by_order sign.GreaterEqual o e = refl
pair_sign by_range sign.Range o e = refl
pair_sign l s o e = absurd (let z : None ≡ Some o = e in cc)

terms_sign : (l : Terms) (s : Sign) (o : Operator) → terms_operator l s ≡ Some o → stops_expr (Some (kind.Sign s)) ≡ false
terms_sign by_sum sign.Plus o e = refl
terms_sign by_sum sign.Minus o e = refl
terms_sign by_product sign.Times o e = refl
terms_sign by_product sign.Mod o e = refl
terms_sign l s o e = absurd (let z : None ≡ Some o = e in cc)

chain_goes_on : (l : Chain) → stops_expr (Some (kind.Sign (chain_sign l))) ≡ false
chain_goes_on by_or = refl
chain_goes_on by_and = refl

call_begins : {K : Stream} {P : Places} {args : Arguments} {a b : ℕ} → IsCall K P args a b → stops_expr (K a) ≡ false
call_begins (call_empty o c m) = ap stops_expr o
call_begins (call_some o x c m) = ap stops_expr o
call_begins (call_closure (closure_headed o h hs ss c)) = ap stops_expr o
call_begins (call_closure (closure_plain o h ss c)) = ap stops_expr o

clash : (K : Stream) (a : ℕ) {m : ℕ} {k : TokenKind} → K m ≡ Some k → stops_expr (Some k) ≡ false → m ≡ a + 1 → stops_expr (K (a + 1)) ≡ true → ⊥
clash K a h n e st = false≢true (sym n ∙ ap stops_expr (sym h) ∙ ap (λ x. stops_expr (K x)) e ∙ st)

-- A name before a token that does not go on with an expression is all of the expression that begins with it.
module _ {K : Stream} {P : Places} where
  name_primary : {e : Expr} {n : List ℕ} {a b : ℕ} → IsPrimary K P e a b → K a ≡ Some (kind.Name n) → stops_expr (K (a + 1)) ≡ true → (e ≡ expr.Variable n) × (b ≡ a + 1)
  name_primary (primary_name {n = m} k) h st = (ap expr.Variable (same_name m _ (sym k ∙ h)), refl)
    where
      same_name : (m n : List ℕ) → Some (kind.Name m) ≡ Some (kind.Name n) → m ≡ n
      same_name m n e = cc
  name_primary (primary_call k c) h st = absurd (false≢true (sym (call_begins c) ∙ st))
  name_primary (primary_number k) h st = absurd cc
  name_primary (primary_text k) h st = absurd cc
  name_primary (primary_gstring (gstring k x c)) h st = absurd cc
  name_primary (primary_true k) h st = absurd cc
  name_primary (primary_false k) h st = absurd cc
  name_primary (primary_null k) h st = absurd cc
  name_primary (primary_group k x c) h st = absurd cc
  name_primary (primary_no_list k c) h st = absurd cc
  name_primary (primary_list k x m c) h st = absurd cc
  name_primary (primary_no_map k x c) h st = absurd cc
  name_primary (primary_map k x m c) h st = absurd cc
  name_primary (primary_closure (closure_headed k g hs ss c)) h st = absurd cc
  name_primary (primary_closure (closure_plain k g ss c)) h st = absurd cc
  name_primary (primary_new k n o c) h st = absurd cc
  name_primary (primary_new_with k n o x c) h st = absurd cc

  name_suffixes : {e : Expr} {ss : List Suffix} {m b : ℕ} → Suffixes K P ss m b → stops_expr (K m) ≡ true → (suffixed e ss ≡ e) × (b ≡ m)
  name_suffixes suffixes_none st = (refl, refl)
  name_suffixes (suffixes_property (dot d) k r) st = absurd (false≢true (sym (ap stops_expr d) ∙ st))
  name_suffixes (suffixes_property (safe_dot d) k r) st = absurd (false≢true (sym (ap stops_expr d) ∙ st))
  name_suffixes (suffixes_method (dot d) k c r) st = absurd (false≢true (sym (ap stops_expr d) ∙ st))
  name_suffixes (suffixes_method (safe_dot d) k c r) st = absurd (false≢true (sym (ap stops_expr d) ∙ st))
  name_suffixes (suffixes_index o x c r) st = absurd (false≢true (sym (ap stops_expr o) ∙ st))

  pub name_expr : {r : Rank} {e : Expr} {n : List ℕ} {a b : ℕ} → IsExpr K P r e a b → K a ≡ Some (kind.Name n) → stops_expr (K (a + 1)) ≡ true → (e ≡ expr.Variable n) × (b ≡ a + 1)
  name_expr (whole choices_none x) h st = name_expr x h st
  name_expr (whole (choices_true t q v c cs) x) h st = absurd (clash K _ q refl (name_expr t h st).1 st)
  name_expr (whole (choices_set t q cs) x) h st = absurd (clash K _ q refl (name_expr t h st).1 st)
  name_expr (chain x chain_end) h st = name_expr x h st
  name_expr (chain {l = l} x (chain_more s y r)) h st = absurd (clash K _ s (chain_goes_on l) (name_expr x h st).1 st)
  name_expr (pair_alone x) h st = name_expr x h st
  name_expr (pair {l = l} {s = s} {o = o} x k q y) h st = absurd (clash K _ k (pair_sign l s o q) (name_expr x h st).1 st)
  name_expr (terms x terms_end) h st = name_expr x h st
  name_expr (terms {l = l} x (terms_more {s = s} {o = o} k q y r)) h st = absurd (clash K _ k (terms_sign l s o q) (name_expr x h st).1 st)
  name_expr {r} {e} {n} {a} {b} (unary {e = p} {ss = ss} {m = m} {n = k} prefixes_none i s) h st =
      let q = name_primary i h st in
      let w = name_suffixes {e = p} s (ap (λ x. stops_expr (K x)) q.1 ∙ st) in
      (w.0 ∙ q.0, w.1 ∙ q.1)
  name_expr (unary (prefixes_more k q r) i s) h st = absurd cc
