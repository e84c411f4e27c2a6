-- The rules of statements with blocks, for the calculus.
use Rattle.std.proofs.Common.{◌≡◌, ℕ, ◌+◌, ◌≤◌, Bool, true, false, Option, Some, None, List, [], ◌∷◌, inl, inr, ⊎_elim, refl, sym, ap, ◌∙◌, subst, arith, le_trans}
use Rattle.std.proofs.lemmas.Bool.{false≢true}
use Rattle.model_syntax.specs.declared.sign.Sign.TheVariants as sign
use Rattle.model_syntax.specs.declared.word.Word.TheVariants as word
use Rattle.model_syntax.specs.declared.token.TokenKind.{TokenKind}
use Rattle.model_syntax.specs.declared.token.TokenKind.TheVariants as kind
use Rattle.model_syntax.specs.declared.tree.Arm.{Arm}
use Rattle.model_syntax.specs.declared.tree.Expr.{Expr}
use Rattle.model_syntax.specs.declared.tree.Stmt.{Stmt}
use Rattle.model_syntax.specs.Stream.{Stream, Places, Sees}
use Rattle.model_syntax.specs.Grammar.{MayBreak, no_break, break, no_separator, IsSimple, simple_def, simple_declare, simple_assign, simple_evaluate, simple_return, simple_return_value, simple_break, simple_continue, simple_throw, type_def, type_name, IsStmt, IsArm, IsBody, body_block, body_simple, IsBlock, block, IsStmts, stmts_none}
use Rattle.model_syntax.proofs.GrammarLemmas.{begins_expr, whole_begins, assign_begins}
use Rattle.groovy_expr.specs.Answers.{Rule, Stops, Before, Inside, Exact, Refused}
use Rattle.groovy_expr.specs.Stops.{stops_expr, stops_closed, stops_simple, stops_body, stops_stmts}
use Rattle.groovy_expr.specs.Statements.{BehindHead, behind_head, IsGuarded, guarded, BreaksTo}
use Rattle.groovy_expr.proofs.Calculus.{Weaker, alike, Tok, Ret, Sub, Alt, Leads, leads_tok, leads_ret, Fill, Fills, fills_ret, fills_tok, fill_tok, fill_ret, fill_sub, fill_as, viable_more, inside_more, ret, tok_ok, tok_fails, tok_bad, sub_ok, sub_fails, sub_bad, NeverTo, alt_left, alt_right, alt_left_bad, alt_right_bad, moved}
use Rattle.groovy_expr.proofs.StatementCalculus.{FirstIn, exact_less, refused_less, IsRule, rule_ok, rule_bad}
use Rattle.groovy_expr.proofs.StatementWhole.{Expression}
use Rattle.groovy_expr.proofs.StatementSimple.{Simple, fill_expr, fill_simple, simple_brace}

abbrev pub Block : Places → Rule (List Stmt)
Block P K = IsBlock K P

abbrev pub Body : Places → Rule (List Stmt)
Body P K = IsBody K P

abbrev pub Stmts : Places → Rule (List Stmt)
Stmts P K = IsStmts K P

abbrev pub Statement : Places → Rule Stmt
Statement P K = IsStmt K P

abbrev pub AnArm : Places → Rule Arm
AnArm P K = IsArm K P

abbrev pub Guarded : Places → Rule Arm
Guarded P K = IsGuarded K P

-- [ NL ] and then a rule
abbrev pub Brk : {A : Type 0} → Rule A → Rule A
Brk R J y a b = (m : ℕ) × MayBreak J a m × R J y m b

-- no rule of ours begins with a newline
module _ {A : Type 0} (R : Rule A) (stops : Stops) (K : Stream) (starts : Option TokenKind → Bool) (begins : FirstIn R starts) (shut : starts (Some kind.Newline) ≡ false) {at m : ℕ} where
  brk_only : {J : Stream} {y : A} {b l : ℕ} → BreaksTo K at m → J at ≡ K at → MayBreak J at l → R J y l b → R J y m b
  brk_only {J} {y} {b} t same no_break r = ⊎_elim
      (λ h. absurd (false≢true (sym shut ∙ ap starts (sym (same ∙ h.0)) ∙ begins J y _ b r)))
      (λ h. subst (λ k. R J y k b) (sym h.1) r) t
  brk_only {J} {y} {b} t same (break k) r = ⊎_elim
      (λ h. subst (λ k. R J y k b) (sym h.1) r)
      (λ h. absurd (h.0 (sym same ∙ k))) t

  brk_first : {J : Stream} {i : ℕ} → BreaksTo K at m → m ≤ i → Before i J K → MayBreak J at m
  brk_first {J} t le same = ⊎_elim
      (λ h. subst (λ k. MayBreak J at k) (sym h.1) (break (let e = h.1 in same at (omega arith) ∙ h.0)))
      (λ h. subst (λ k. MayBreak J at k) (sym h.1) no_break) t

  brk_inside : {i : ℕ} → BreaksTo K at m → Inside K m i → Inside K at i
  brk_inside {i} t f = ⊎_elim
      (λ h. inside_more K kind.Newline at i h.0 (subst (λ k. Inside K k i) h.1 f))
      (λ h. subst (λ k. Inside K k i) h.1 f) t

  brk_after : BreaksTo K at m → at ≤ m
  brk_after t = ⊎_elim (λ h. let e = h.1 in omega arith) (λ h. let e = h.1 in omega arith) t

  pub brk_ok : BreaksTo K at m → {x : A} {n : ℕ} → Exact R stops K m x n → Exact (Brk R) stops K at x n
  brk_ok t {x} {n} e = let le = brk_after t in let from = e.after in record {
    after = omega arith;
    inside = brk_inside t e.inside;
    spelled = λ J same so. (m, brk_first t e.after same, e.spelled J same so);
    only = λ J y b same r st. e.only J y b same (brk_only t (same at (omega arith)) r.1 r.2) st;
  }

  pub brk_fails : BreaksTo K at m → {i : ℕ} → Refused R stops K m i → Refused (Brk R) stops K at i
  brk_fails t {i} f = let le = brk_after t in let from = f.from in record {
    from = omega arith;
    inside = brk_inside t f.inside;
    never = λ J y b same r st. f.never J y b same (brk_only t (same at (omega arith)) r.1 r.2) st;
    viable = viable_more (alike stops) (λ J e same so v. (v.0, (m, brk_first t f.from same, v.1))) f.viable;
  }

pub fill_brk : {A : Type 0} {R : Rule A} {stops : Stops} → Fill R stops → Fill (Brk R) stops
fill_brk f = record { tokens = f.tokens; fills = λ J a e st so. let v = f.fills J a e st so in (v.0, (a, no_break, v.1)) }

-- a block
abbrev pub BlockEnd : List Stmt → Rule (List Stmt)
BlockEnd ss = Tok (kind.Sign sign.BraceClose) (Ret ss)

abbrev pub BlockBody : Places → Rule (List Stmt)
BlockBody P = Tok (kind.Sign sign.BraceOpen) (Sub (Stmts P) BlockEnd)

block_in : {P : Places} {J : Stream} {y : List Stmt} {a b : ℕ} → IsBlock J P y a b → BlockBody P J y a b
block_in (block o s c) = (o, (_, _, s, (c, (refl, refl))))

block_out : {P : Places} {J : Stream} {y : List Stmt} {a b : ℕ} → BlockBody P J y a b → IsBlock J P y a b
block_out {P} {J} {y} {a} {b} (o, r) = moved (λ z k. IsBlock J P z a k) r.3.1 (block o r.2 r.3.0)

block_rule : (P : Places) → IsRule (Block P) (BlockBody P)
block_rule P = record { enter = block_in; leave = block_out }

block_leads : Leads BlockEnd stops_stmts stops_closed
block_leads = leads_tok stops_stmts stops_closed (λ ss. kind.Sign sign.BraceClose) (λ ss. Ret ss) (λ ss. refl)

pub closed : (s : Stops) → Weaker s stops_closed
closed s k e = refl

block_fills : Fills BlockEnd stops_stmts stops_closed
block_fills = fills_tok (kind.Sign sign.BraceClose) {other = stops_closed} refl (fills_ret (λ ss. ss) (alike _))

fill_stmts : (P : Places) → Fill (Stmts P) stops_stmts
fill_stmts P = record { tokens = []; fills = λ J a e st so. ([], moved (λ z k. IsStmts J P z a k) (refl, st) (stmts_none no_separator)) }

pub fill_block : (P : Places) → Fill (Block P) stops_closed
fill_block P = fill_as (λ J y a e r. (y, block_out r)) (fill_tok (kind.Sign sign.BraceOpen) (fill_sub (fill_stmts P) block_fills))

-- a block begins with `{`
abbrev pub is_brace : Option TokenKind → Bool
is_brace (Some (kind.Sign sign.BraceOpen)) = true
is_brace t = false

pub block_begins : (P : Places) → FirstIn (Block P) is_brace
block_begins P J y a b r = ap is_brace (block_in r).0

module _ (K : Stream) (P : Places) {at : ℕ} where
  pub block_none : (Sees K at sign.BraceOpen → ⊥) → Refused (Block P) stops_closed K at at
  block_none h = rule_bad (block_rule P) (tok_bad stops_closed K (fill_sub (fill_stmts P) block_fills) h)

  module _ (h : Sees K at sign.BraceOpen) where
    pub block_fails : {i : ℕ} → Refused (Stmts P) stops_stmts K (at + 1) i → Refused (Block P) stops_closed K at i
    block_fails f = rule_bad (block_rule P) (tok_fails stops_closed K h (sub_fails K block_leads block_fills f))

    module _ {m : ℕ} {ss : List Stmt} (e : Exact (Stmts P) stops_stmts K (at + 1) ss m) where
      pub block_open : (Sees K m sign.BraceClose → ⊥) → Refused (Block P) stops_closed K at m
      block_open d = rule_bad (block_rule P) (tok_fails stops_closed K h (sub_bad K block_leads e (tok_bad stops_closed K (fill_ret ss) d)))

      pub block_ok : Sees K m sign.BraceClose → Exact (Block P) stops_closed K at ss (m + 1)
      block_ok d = rule_ok (block_rule P) (tok_ok stops_closed K h (sub_ok K block_leads e (tok_ok stops_closed K d (ret stops_closed K _ _))))

-- what statements without a block begin with, and blocks
abbrev pub begins_simple : Option TokenKind → Bool
begins_simple (Some (kind.Word word.Def)) = true
begins_simple (Some (kind.Word word.Return)) = true
begins_simple (Some (kind.Word word.Break)) = true
begins_simple (Some (kind.Word word.Continue)) = true
begins_simple (Some (kind.Word word.Throw)) = true
begins_simple t = begins_expr t

expr_simple : (t : Option TokenKind) → begins_expr t ≡ true → begins_simple t ≡ true
expr_simple (Some (kind.Word word.Def)) e = refl
expr_simple (Some (kind.Word word.Return)) e = refl
expr_simple (Some (kind.Word word.Break)) e = refl
expr_simple (Some (kind.Word word.Continue)) e = refl
expr_simple (Some (kind.Word word.Throw)) e = refl
expr_simple t e = e

-- a body is a block or a statement
abbrev pub OneStmt : Places → Rule (List Stmt)
OneStmt P = Sub (Simple P) (λ s. Ret (s ∷ []))

body_in : {P : Places} {J : Stream} {y : List Stmt} {a b : ℕ} → IsBody J P y a b → Alt (Block P) (OneStmt P) J y a b
body_in (body_block r) = inl r
body_in (body_simple r) = inr (_, _, r, (refl, refl))

body_out : {P : Places} {J : Stream} {y : List Stmt} {a b : ℕ} → Alt (Block P) (OneStmt P) J y a b → IsBody J P y a b
body_out {P} {J} {y} {a} {b} r = ⊎_elim (λ z. body_block z) (λ z. moved (λ x k. IsBody J P x a k) z.3 (body_simple z.2)) r

body_rule : (P : Places) → IsRule (Body P) (Alt (Block P) (OneStmt P))
body_rule P = record { enter = body_in; leave = body_out }

pub body_simple_stops : Weaker stops_body stops_simple
body_simple_stops (Some kind.Newline) e = refl
body_simple_stops (Some (kind.Sign sign.Semicolon)) e = refl
body_simple_stops (Some (kind.Sign sign.BraceClose)) e = refl
body_simple_stops (Some (kind.Word word.Else)) e = refl
body_simple_stops None e = refl
body_simple_stops t e = absurd (false≢true e)

one_leads : Leads (λ (s : Stmt). Ret (s ∷ [])) stops_simple stops_body
one_leads = leads_ret stops_simple stops_body (λ s. s ∷ []) body_simple_stops

pub fill_body : (P : Places) → Fill (Body P) stops_body
fill_body P = fill_as (λ J y a e r. (y, body_out (inr r))) (fill_sub (fill_simple P) (fills_ret (λ s. s ∷ []) body_simple_stops))

module _ (K : Stream) (P : Places) {at : ℕ} where
  module _ (h : Sees K at sign.BraceOpen) where
    no_one : {i : ℕ} → at ≤ i → NeverTo i (OneStmt P) stops_body K at
    no_one le J y b same r st = (simple_brace K P h).never J r.0 r.1 (λ k l. same k (le_trans l le)) r.2 (one_leads r.0 J y r.1 b r.3 st)

    pub body_block_ok : {ss : List Stmt} {m : ℕ} → Exact (Block P) stops_closed K at ss m → Exact (Body P) stops_body K at ss m
    body_block_ok e = rule_ok (body_rule P) (alt_left (Block P) (OneStmt P) (no_one e.after) (exact_less (closed _) e))

    pub body_block_fails : {i : ℕ} → Refused (Block P) stops_closed K at i → Refused (Body P) stops_body K at i
    body_block_fails f = rule_bad (body_rule P) (alt_left_bad (Block P) (OneStmt P) (no_one f.from) (refused_less (closed _) f))

  module _ (h : Sees K at sign.BraceOpen → ⊥) where
    no_block : {i : ℕ} → at ≤ i → NeverTo i (Block P) stops_body K at
    no_block le J y b same r st = h (sym (same at le) ∙ (block_in r).0)

    pub body_simple_ok : {s : Stmt} {m : ℕ} → Exact (Simple P) stops_simple K at s m → Exact (Body P) stops_body K at (s ∷ []) m
    body_simple_ok e = rule_ok (body_rule P) (alt_right (Block P) (OneStmt P) (no_block e.after) (sub_ok K one_leads e (ret stops_body K _ _)))

    pub body_simple_fails : {i : ℕ} → Refused (Simple P) stops_simple K at i → Refused (Body P) stops_body K at i
    body_simple_fails f = rule_bad (body_rule P) (alt_right_bad (Block P) (OneStmt P) (no_block f.from) (sub_fails K one_leads (fills_ret (λ s. s ∷ []) body_simple_stops) f))

-- what a body begins with: no newline
pub simple_begin : {P : Places} {J : Stream} {y : Stmt} {a b : ℕ} → IsSimple J P y a b → begins_simple (J a) ≡ true
simple_begin (simple_def w n) = ap begins_simple w
simple_begin (simple_declare (type_def w) n s e) = ap begins_simple w
simple_begin (simple_declare (type_name w) n s e) = ap begins_simple w
simple_begin {P} {J} {y} {a} (simple_assign n r) = expr_simple (J a) (assign_begins r)
simple_begin {P} {J} {y} {a} (simple_evaluate n r) = expr_simple (J a) (whole_begins r)
simple_begin (simple_return w) = ap begins_simple w
simple_begin (simple_return_value w r) = ap begins_simple w
simple_begin (simple_break w) = ap begins_simple w
simple_begin (simple_continue w) = ap begins_simple w
simple_begin (simple_throw w r) = ap begins_simple w

pub body_begins : (P : Places) → FirstIn (Body P) begins_simple
body_begins P J y a b (body_block r) = ap begins_simple (block_in r).0
body_begins P J y a b (body_simple r) = simple_begin r

-- the end of a head, and a body
abbrev pub Behind : Places → Rule (List Stmt)
Behind P K = BehindHead K P

abbrev BehindBody : Places → Rule (List Stmt)
BehindBody P = Tok (kind.Sign sign.ParenClose) (Brk (Body P))

behind_in : {P : Places} {J : Stream} {y : List Stmt} {a b : ℕ} → BehindHead J P y a b → BehindBody P J y a b
behind_in (behind_head c k d) = (c, (_, k, d))

behind_out : {P : Places} {J : Stream} {y : List Stmt} {a b : ℕ} → BehindBody P J y a b → BehindHead J P y a b
behind_out r = behind_head r.0 r.1.1 r.1.2

behind_rule : (P : Places) → IsRule (Behind P) (BehindBody P)
behind_rule P = record { enter = behind_in; leave = behind_out }

pub fill_behind : (P : Places) → Fill (Behind P) stops_body
fill_behind P = fill_as (λ J y a e r. (y, behind_out r)) (fill_tok (kind.Sign sign.ParenClose) (fill_brk (fill_body P)))

abbrev pub is_close : Option TokenKind → Bool
is_close (Some (kind.Sign sign.ParenClose)) = true
is_close t = false

pub behind_begins : (P : Places) → FirstIn (Behind P) is_close
behind_begins P J y a b r = ap is_close (behind_in r).0

module _ (K : Stream) (P : Places) {at : ℕ} where
  pub behind_none : (Sees K at sign.ParenClose → ⊥) → Refused (Behind P) stops_body K at at
  behind_none h = rule_bad (behind_rule P) (tok_bad stops_body K (fill_brk (fill_body P)) h)

  module _ (h : Sees K at sign.ParenClose) {m : ℕ} (t : BreaksTo K (at + 1) m) where
    pub behind_fails : {i : ℕ} → Refused (Body P) stops_body K m i → Refused (Behind P) stops_body K at i
    behind_fails f = rule_bad (behind_rule P) (tok_fails stops_body K h (brk_fails (Body P) stops_body K begins_simple (body_begins P) refl t f))

    pub behind_ok : {ss : List Stmt} {n : ℕ} → Exact (Body P) stops_body K m ss n → Exact (Behind P) stops_body K at ss n
    behind_ok e = rule_ok (behind_rule P) (tok_ok stops_body K h (brk_ok (Body P) stops_body K begins_simple (body_begins P) refl t e))

-- behind an expression that ends a head, and a body to it
module _ {A : Type 0} (P : Places) (f : Expr → List Stmt → A) where
  abbrev pub Heads : Expr → Rule A
  Heads e = Sub (Behind P) (λ ss. Ret (f e ss))

  pub heads_leads : Leads Heads stops_expr stops_body
  heads_leads e J y a b r st = by_close (J a) (behind_begins P J r.0 a r.1 r.2)
    where
      by_close : (t : Option TokenKind) → is_close t ≡ true → stops_expr t ≡ true
      by_close (Some (kind.Sign sign.ParenClose)) h = refl
      by_close t h = absurd (false≢true h)

  pub behind_leads : (e : Expr) → Leads (λ ss. Ret (f e ss)) stops_body stops_body
  behind_leads e = leads_ret stops_body stops_body (f e) (alike _)

  pub heads_fills : Fills Heads stops_expr stops_body
  heads_fills = record {
    tokens = kind.Sign sign.ParenClose ∷ kind.Sign sign.BraceOpen ∷ kind.Sign sign.BraceClose ∷ [];
    fills = λ e J a b st so. (f e [], ([], _, behind_head st.0 no_break (body_block (block st.1.0 (stmts_none no_separator) st.1.1.0)), (refl, st.1.1.1)));
    ends = λ J a b st so. ap stops_expr st.0;
  }

  module _ (K : Stream) {at : ℕ} where
    pub heads_fails : {i : ℕ} → Refused (Expression P) stops_expr K at i → Refused (Sub (Expression P) Heads) stops_body K at i
    heads_fails g = sub_fails K heads_leads heads_fills g

    pub heads_bad : {x : Expr} {m i : ℕ} → Exact (Expression P) stops_expr K at x m → Refused (Behind P) stops_body K m i → Refused (Sub (Expression P) Heads) stops_body K at i
    heads_bad {x} e g = sub_bad K heads_leads e (sub_fails K (behind_leads x) (fills_ret (f x) (alike _)) g)

    pub heads_ok : {x : Expr} {ss : List Stmt} {m n : ℕ} → Exact (Expression P) stops_expr K at x m → Exact (Behind P) stops_body K m ss n → Exact (Sub (Expression P) Heads) stops_body K at (f x ss) n
    heads_ok {x} e g = sub_ok K heads_leads e (sub_ok K (behind_leads x) g (ret stops_body K _ _))

-- a test in parentheses, and a body
abbrev pub an_arm : Expr → List Stmt → Arm
an_arm e ss = record { test = e; body = ss }

abbrev pub GuardedBody : Places → Rule Arm
GuardedBody P = Tok (kind.Sign sign.ParenOpen) (Sub (Expression P) (Heads P an_arm))

guarded_in : {P : Places} {J : Stream} {y : Arm} {a b : ℕ} → IsGuarded J P y a b → GuardedBody P J y a b
guarded_in (guarded o e d) = (o, (_, _, e, (_, _, d, (refl, refl))))

guarded_out : {P : Places} {J : Stream} {y : Arm} {a b : ℕ} → GuardedBody P J y a b → IsGuarded J P y a b
guarded_out {P} {J} {y} {a} {b} r = moved (λ z k. IsGuarded J P z a k) r.1.3.3 (guarded r.0 r.1.2 r.1.3.2)

guarded_rule : (P : Places) → IsRule (Guarded P) (GuardedBody P)
guarded_rule P = record { enter = guarded_in; leave = guarded_out }

pub fill_guarded : (P : Places) → Fill (Guarded P) stops_body
fill_guarded P = fill_as (λ J y a e r. (y, guarded_out r)) (fill_tok (kind.Sign sign.ParenOpen) (fill_sub (fill_expr P stops_expr) (heads_fills P an_arm)))

module _ (K : Stream) (P : Places) {at : ℕ} where
  pub guarded_none : (Sees K at sign.ParenOpen → ⊥) → Refused (Guarded P) stops_body K at at
  guarded_none h = rule_bad (guarded_rule P) (tok_bad stops_body K (fill_sub (fill_expr P stops_expr) (heads_fills P an_arm)) h)

  module _ (h : Sees K at sign.ParenOpen) where
    pub guarded_fails : {i : ℕ} → Refused (Expression P) stops_expr K (at + 1) i → Refused (Guarded P) stops_body K at i
    guarded_fails f = rule_bad (guarded_rule P) (tok_fails stops_body K h (heads_fails P an_arm K f))

    module _ {m : ℕ} {x : Expr} (e : Exact (Expression P) stops_expr K (at + 1) x m) where
      pub guarded_bad : {i : ℕ} → Refused (Behind P) stops_body K m i → Refused (Guarded P) stops_body K at i
      guarded_bad f = rule_bad (guarded_rule P) (tok_fails stops_body K h (heads_bad P an_arm K e f))

      pub guarded_ok : {ss : List Stmt} {n : ℕ} → Exact (Behind P) stops_body K m ss n → Exact (Guarded P) stops_body K at (an_arm x ss) n
      guarded_ok f = rule_ok (guarded_rule P) (tok_ok stops_body K h (heads_ok P an_arm K e f))
