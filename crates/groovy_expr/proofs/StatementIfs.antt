-- The rules of statements by their first word, and of `if` and `while`, for the calculus.
use Rattle.std.proofs.Common.{◌≡◌, ℕ, ◌+◌, Bool, true, false, Option, Some, None, List, [], ◌∷◌, ◌++◌, inl, inr, ⊎_elim, refl, sym, ap, ◌∙◌, subst, arith, le_refl, append_assoc, append-nil}
use Rattle.std.proofs.lemmas.Bool.{false≢true}
use Rattle.model_syntax.specs.declared.place.Declared.{Declared}
use Rattle.model_syntax.specs.declared.sign.Sign.TheVariants as sign
use Rattle.model_syntax.specs.declared.word.Word.TheVariants as word
use Rattle.model_syntax.specs.declared.token.TokenKind.{TokenKind}
use Rattle.model_syntax.specs.declared.token.TokenKind.TheVariants as kind
use Rattle.model_syntax.specs.declared.tree.Arm.{Arm}
use Rattle.model_syntax.specs.declared.tree.Assignment.{Assignment}
use Rattle.model_syntax.specs.declared.tree.Catch.{Catch}
use Rattle.model_syntax.specs.declared.tree.Expr.{Expr}
use Rattle.model_syntax.specs.declared.tree.Init.{Init}
use Rattle.model_syntax.specs.declared.tree.Stmt.{Stmt}
use Rattle.model_syntax.specs.declared.tree.Stmt.TheVariants as stmt
use Rattle.model_syntax.specs.Stream.{Stream, Places, Sees, SeesWord}
use Rattle.model_syntax.specs.Operators.{rank_whole, for_steps}
use Rattle.model_syntax.specs.Grammar.{MayBreak, no_break, break, IsExpr, IsAssign, IsSimple, IsStmt, stmt_if, stmt_while, stmt_for_each, stmt_for_steps, stmt_try_catch, stmt_try_finally, stmt_simple, IsArm, arm, ElseIfs, no_else_if, else_if, MayElse, no_else, else_body, IsEach, IsInit, CatchList, no_catch, catch_more, IsFinally, MayFinally, IsBody, IsBlock}
use Rattle.groovy_expr.specs.Answers.{Rule, Exact, Refused}
use Rattle.groovy_expr.specs.Stops.{stops_simple, stops_body, stops_stmt}
use Rattle.groovy_expr.specs.Statements.{BehindHead, behind_head, IsGuarded, guarded, BreaksTo, SeesElseIf}
use Rattle.groovy_expr.proofs.Calculus.{Weaker, Tok, Ret, Sub, Alt, Leads, leads_ret, Fill, Fills, fills_ret, viable_more, inside_none, inside_more, inside_both, ret, tok_ok, tok_fails, tok_bad, sub_ok, sub_fails, moved, shorter, before, Tail, tail_end, tail_fails, Turns, turn_ok, turn_bad, IsByToken, by}
use Rattle.groovy_expr.proofs.StatementCalculus.{exact_less, refused_less, IsRule, rule_ok, rule_bad}
use Rattle.groovy_expr.proofs.StatementWhole.{Expression}
use Rattle.groovy_expr.proofs.StatementSimple.{Assigning, Simple, fill_simple}
use Rattle.groovy_expr.proofs.StatementBlocks.{Block, Body, Statement, AnArm, Guarded, Behind, Brk, brk_ok, brk_fails, begins_simple, simple_begin, body_begins}

-- the statements behind their first words
abbrev pub Elsed : Type 0
Elsed = List Arm × Option (List Stmt)

abbrev pub Elses : Places → Rule Elsed
Elses P J z a b = (m : ℕ) × ElseIfs J P z.0 a m × MayElse J P z.1 m b

abbrev pub Ifs : Places → Rule Stmt
Ifs P = Sub (AnArm P) (λ t. Sub (Elses P) (λ z. Ret (stmt.If (t ∷ z.0) z.1)))

abbrev pub Whiles : Places → Rule Stmt
Whiles P = Sub (Guarded P) (λ t. Ret (stmt.While t.test t.body))

-- `for (x in e)`
abbrev pub EachLoop : Places → Rule Stmt
EachLoop P J y a b = (d : Declared) × (e : Expr) × (m : ℕ) × IsEach J P d e a m × ((ss : List Stmt) × (n : ℕ) × BehindHead J P ss m n × Ret (stmt.ForEach d e ss) J y n b)

-- `for (a; test; b)`
abbrev pub AnInit : Places → Rule Init
AnInit P K = IsInit K P

abbrev pub StepsEnd : Places → Init → Expr → Assignment → Rule Stmt
StepsEnd P i e u = Sub (Behind P) (λ ss. Ret (for_steps i e u ss))

abbrev pub StepsUpdate : Places → Init → Expr → Rule Stmt
StepsUpdate P i e = Tok (kind.Sign sign.Semicolon) (Sub (Assigning P) (StepsEnd P i e))

abbrev pub StepsTest : Places → Init → Rule Stmt
StepsTest P i = Tok (kind.Sign sign.Semicolon) (Sub (Expression P) (StepsUpdate P i))

abbrev pub StepsLoop : Places → Rule Stmt
StepsLoop P = Sub (AnInit P) (StepsTest P)

abbrev pub Loops : Places → Rule Stmt
Loops P = Tok (kind.Sign sign.ParenOpen) (Alt (EachLoop P) (StepsLoop P))

-- catches and `finally` behind the block of a `try`
abbrev pub CatchesOf : Places → Rule (List Catch)
CatchesOf P K = CatchList K P

abbrev pub Finally : Places → Rule (List Stmt)
Finally P K = IsFinally K P

abbrev pub MayFinish : Places → Rule (Option (List Stmt))
MayFinish P K = MayFinally K P

abbrev pub Finish : Places → List Stmt → List Catch → Rule Stmt
Finish P ss [] = Sub (Finally P) (λ ts. Ret (stmt.Try ss [] (Some ts)))
Finish P ss (c ∷ cs) = Sub (MayFinish P) (λ o. Ret (stmt.Try ss (c ∷ cs) o))

abbrev pub Handled : Places → List Stmt → Rule Stmt
Handled P ss = Sub (CatchesOf P) (Finish P ss)

abbrev pub Tries : Places → Rule Stmt
Tries P = Brk (Sub (Block P) (Handled P))

-- a statement by its first token
abbrev pub StmtBy : Places → Option TokenKind → Rule Stmt
StmtBy P (Some (kind.Word word.If)) = Ifs P
StmtBy P (Some (kind.Word word.While)) = Tok (kind.Word word.While) (Whiles P)
StmtBy P (Some (kind.Word word.For)) = Tok (kind.Word word.For) (Loops P)
StmtBy P (Some (kind.Word word.Try)) = Tok (kind.Word word.Try) (Tries P)
StmtBy P k = Simple P

arm_word : {J : Stream} {P : Places} {t : Arm} {a b : ℕ} → IsArm J P t a b → SeesWord J a word.If
arm_word (arm w o e c k d) = w

simple_by_token : (P : Places) (k : Option TokenKind) {J : Stream} {y : Stmt} {a b : ℕ} → begins_simple k ≡ true → IsSimple J P y a b → StmtBy P k J y a b
simple_by_token P (Some (kind.Word word.If)) h r = absurd (false≢true h)
simple_by_token P (Some (kind.Word word.While)) h r = absurd (false≢true h)
simple_by_token P (Some (kind.Word word.For)) h r = absurd (false≢true h)
simple_by_token P (Some (kind.Word word.Try)) h r = absurd (false≢true h)
simple_by_token P k h r = r

stmt_enter : {P : Places} {J : Stream} {y : Stmt} {a b : ℕ} → IsStmt J P y a b → StmtBy P (J a) J y a b
stmt_enter (stmt_if t ts o) = rw (arm_word t) (_, _, t, (_, _, (_, ts, o), (refl, refl)))
stmt_enter (stmt_while w o e c k d) = rw w (w, (_, _, guarded o e (behind_head c k d), (refl, refl)))
stmt_enter (stmt_for_each w o e c k d) = rw w (w, (o, inl (_, _, _, e, (_, _, behind_head c k d, (refl, refl)))))
stmt_enter (stmt_for_steps w o i s e t u c k d) = rw w (w, (o, inr (_, _, i, (s, (_, _, e, (t, (_, _, u, (_, _, behind_head c k d, (refl, refl)))))))))
stmt_enter (stmt_try_catch w k d c cs o) = rw w (w, (_, k, (_, _, d, (_, _, catch_more c cs, (_, _, o, (refl, refl))))))
stmt_enter (stmt_try_finally w k d f) = rw w (w, (_, k, (_, _, d, (_, _, no_catch, (_, _, f, (refl, refl))))))
stmt_enter {P} {J} {y} {a} (stmt_simple r) = simple_by_token P (J a) (simple_begin r) r

module _ {P : Places} {J : Stream} {y : Stmt} {a b : ℕ} where
  while_leave : Tok (kind.Word word.While) (Whiles P) J y a b → IsStmt J P y a b
  while_leave r = moved (λ z k. IsStmt J P z a k) r.1.3 (parts r.0 r.1.2)
    where
      parts : {t : Arm} {m : ℕ} → SeesWord J a word.While → IsGuarded J P t (a + 1) m → IsStmt J P (stmt.While t.test t.body) a m
      parts w (guarded o e (behind_head c k d)) = stmt_while w o e c k d

  for_leave : Tok (kind.Word word.For) (Loops P) J y a b → IsStmt J P y a b
  for_leave r = ⊎_elim
      (λ z. moved (λ x k. IsStmt J P x a k) z.4.3 (each r.0 r.1.0 z.3 z.4.2))
      (λ z. moved (λ x k. IsStmt J P x a k) z.3.1.3.1.3.3 (steps r.0 r.1.0 z.2 z.3.0 z.3.1.2 z.3.1.3.0 z.3.1.3.1.2 z.3.1.3.1.3.2))
      r.1.1
    where
      each : {d : Declared} {e : Expr} {ss : List Stmt} {m n : ℕ} → SeesWord J a word.For → Sees J (a + 1) sign.ParenOpen → IsEach J P d e (a + 1 + 1) m → BehindHead J P ss m n → IsStmt J P (stmt.ForEach d e ss) a n
      each w o e (behind_head c k d) = stmt_for_each w o e c k d

      steps : {i : Init} {u : Assignment} {e : Expr} {ss : List Stmt} {k l m n : ℕ} → SeesWord J a word.For → Sees J (a + 1) sign.ParenOpen → IsInit J P i (a + 1 + 1) k → Sees J k sign.Semicolon → IsExpr J P rank_whole e (k + 1) l → Sees J l sign.Semicolon → IsAssign J P u (l + 1) m → BehindHead J P ss m n → IsStmt J P (for_steps i e u ss) a n
      steps w o i s e t u (behind_head c k d) = stmt_for_steps w o i s e t u c k d

  try_leave : Tok (kind.Word word.Try) (Tries P) J y a b → IsStmt J P y a b
  try_leave r = finish r.0 r.1.1 r.1.2.2 r.1.2.3.2 r.1.2.3.3
    where
      finish : {ss : List Stmt} {cs : List Catch} {k l m : ℕ} → SeesWord J a word.Try → MayBreak J (a + 1) k → IsBlock J P ss k l → CatchList J P cs l m → Finish P ss cs J y m b → IsStmt J P y a b
      finish w k d no_catch f = moved (λ z n. IsStmt J P z a n) f.3 (stmt_try_finally w k d f.2)
      finish w k d (catch_more c cs) f = moved (λ z n. IsStmt J P z a n) f.3 (stmt_try_catch w k d c cs f.2)

  if_leave : Ifs P J y a b → IsStmt J P y a b
  if_leave r = moved (λ z k. IsStmt J P z a k) r.3.3 (stmt_if r.2 r.3.2.1 r.3.2.2)

  stmt_leave : (k : Option TokenKind) → StmtBy P k J y a b → IsStmt J P y a b
  stmt_leave (Some (kind.Word word.If)) r = if_leave r
  stmt_leave (Some (kind.Word word.While)) r = while_leave r
  stmt_leave (Some (kind.Word word.For)) r = for_leave r
  stmt_leave (Some (kind.Word word.Try)) r = try_leave r
  stmt_leave k r = stmt_simple r

pub stmt_by : (P : Places) → IsByToken (Statement P) (StmtBy P)
stmt_by P = record { enter = stmt_enter; leave = stmt_leave }

-- what may follow a statement may follow its body
pub stmt_body_stops : Weaker stops_stmt stops_body
stmt_body_stops (Some kind.Newline) e = refl
stmt_body_stops (Some (kind.Sign sign.Semicolon)) e = refl
stmt_body_stops (Some (kind.Sign sign.BraceClose)) e = refl
stmt_body_stops None e = refl
stmt_body_stops t e = absurd (false≢true e)

pub stmt_simple_stops : Weaker stops_stmt stops_simple
stmt_simple_stops (Some kind.Newline) e = refl
stmt_simple_stops (Some (kind.Sign sign.Semicolon)) e = refl
stmt_simple_stops (Some (kind.Sign sign.BraceClose)) e = refl
stmt_simple_stops None e = refl
stmt_simple_stops t e = absurd (false≢true e)

pub fill_stmt : (P : Places) → Fill (Statement P) stops_stmt
fill_stmt P = let f = fill_simple P in record { tokens = f.tokens; fills = λ J a e st so. let v = f.fills J a e st (stmt_simple_stops (J e) so) in (v.0, stmt_simple v.1) }

-- other statements have no block
abbrev pub is_blockless : Option TokenKind → Bool
is_blockless (Some (kind.Word word.If)) = false
is_blockless (Some (kind.Word word.While)) = false
is_blockless (Some (kind.Word word.For)) = false
is_blockless (Some (kind.Word word.Try)) = false
is_blockless k = true

blockless_is : (P : Places) (k : Option TokenKind) → is_blockless k ≡ true → {J : Stream} {y : Stmt} {a b : ℕ} → StmtBy P k J y a b → Simple P J y a b
blockless_is P (Some (kind.Word word.If)) h r = absurd (false≢true h)
blockless_is P (Some (kind.Word word.While)) h r = absurd (false≢true h)
blockless_is P (Some (kind.Word word.For)) h r = absurd (false≢true h)
blockless_is P (Some (kind.Word word.Try)) h r = absurd (false≢true h)
blockless_is P k h r = r

module _ (K : Stream) (P : Places) {at : ℕ} where
  blockless : is_blockless (K at) ≡ true → Turns (Statement P) (Simple P) stops_stmt K at
  blockless h = record {
    enter = λ J y b same r st. blockless_is P (K at) h (subst (λ t. StmtBy P t J y at b) same (stmt_enter r));
    leave = λ J y b r st. stmt_simple r;
  }

  pub stmt_simple_ok : is_blockless (K at) ≡ true → {s : Stmt} {n : ℕ} → Exact (Simple P) stops_simple K at s n → Exact (Statement P) stops_stmt K at s n
  stmt_simple_ok h e = turn_ok (blockless h) (exact_less stmt_simple_stops e)

  pub stmt_simple_fails : is_blockless (K at) ≡ true → {i : ℕ} → Refused (Simple P) stops_simple K at i → Refused (Statement P) stops_stmt K at i
  stmt_simple_fails h f = turn_bad (blockless h) (refused_less stmt_simple_stops f)

  -- `while`
  module _ (h : SeesWord K at word.While) where
    while_leads : Leads (λ (t : Arm). Ret (stmt.While t.test t.body)) stops_body stops_stmt
    while_leads = leads_ret stops_body stops_stmt (λ t. stmt.While t.test t.body) stmt_body_stops

    pub while_ok : {t : Arm} {n : ℕ} → Exact (Guarded P) stops_body K (at + 1) t n → Exact (Statement P) stops_stmt K at (stmt.While t.test t.body) n
    while_ok e = turn_ok (by (stmt_by P) stops_stmt K _ h) (tok_ok stops_stmt K h (sub_ok K while_leads e (ret stops_stmt K _ _)))

    pub while_fails : {i : ℕ} → Refused (Guarded P) stops_body K (at + 1) i → Refused (Statement P) stops_stmt K at i
    while_fails f = turn_bad (by (stmt_by P) stops_stmt K _ h) (tok_fails stops_stmt K h (sub_fails K while_leads (fills_ret (λ t. stmt.While t.test t.body) stmt_body_stops) f))

-- an arm
arm_in : {P : Places} {J : Stream} {y : Arm} {a b : ℕ} → IsArm J P y a b → Tok (kind.Word word.If) (Guarded P) J y a b
arm_in (arm w o e c k d) = (w, guarded o e (behind_head c k d))

arm_out : {P : Places} {J : Stream} {y : Arm} {a b : ℕ} → Tok (kind.Word word.If) (Guarded P) J y a b → IsArm J P y a b
arm_out {P} {J} {y} {a} {b} r = parts r.0 r.1
  where
    parts : {t : Arm} {m : ℕ} → SeesWord J a word.If → IsGuarded J P t (a + 1) m → IsArm J P t a m
    parts w (guarded o e (behind_head c k d)) = arm w o e c k d

arm_rule : (P : Places) → IsRule (AnArm P) (Tok (kind.Word word.If) (Guarded P))
arm_rule P = record { enter = arm_in; leave = arm_out }

module _ (K : Stream) (P : Places) {at : ℕ} where
  pub arm_none : Fill (Guarded P) stops_body → (SeesWord K at word.If → ⊥) → Refused (AnArm P) stops_body K at at
  arm_none fill h = rule_bad (arm_rule P) (tok_bad stops_body K fill h)

  pub arm_fails : SeesWord K at word.If → {i : ℕ} → Refused (Guarded P) stops_body K (at + 1) i → Refused (AnArm P) stops_body K at i
  arm_fails h f = rule_bad (arm_rule P) (tok_fails stops_body K h f)

  pub arm_ok : SeesWord K at word.If → {t : Arm} {n : ℕ} → Exact (Guarded P) stops_body K (at + 1) t n → Exact (AnArm P) stops_body K at t n
  arm_ok h e = rule_ok (arm_rule P) (tok_ok stops_body K h e)

-- what goes on with an `if`
elses_lead : {P : Places} {J : Stream} {z : Elsed} {a b : ℕ} → Elses P J z a b → stops_stmt (J b) ≡ true → stops_body (J a) ≡ true
elses_lead {P} {J} {z} {a} {b} r st = by_arms r.1 (by_else r.2 st)
  where
    by_else : {o : Option (List Stmt)} {m n : ℕ} → MayElse J P o m n → stops_stmt (J n) ≡ true → stops_body (J m) ≡ true
    by_else no_else st = stmt_body_stops _ st
    by_else (else_body w k d) st = ap stops_body w

    by_arms : {ts : List Arm} {k m : ℕ} → ElseIfs J P ts k m → stops_body (J m) ≡ true → stops_body (J k) ≡ true
    by_arms no_else_if h = h
    by_arms (else_if w t ts) h = ap stops_body w

-- `if` with the arms that were read
abbrev pub IfLoop : Places → Stream → ℕ → List Arm → ℕ → Type 0
IfLoop P K at done n = Tail (Statement P) (Elses P) stops_stmt K at (λ z. stmt.If (done ++ z.0) z.1) n

if_leads : (P : Places) → Leads (λ t. Sub (Elses P) (λ z. Ret (stmt.If (t ∷ z.0) z.1))) stops_body stops_stmt
if_leads P t J y a b r st = elses_lead r.2 (ap (λ k. stops_stmt (J k)) (sym r.3.1) ∙ st)

if_fill : (P : Places) → Fills (λ (t : Arm). Sub (Elses P) (λ z. Ret (stmt.If (t ∷ z.0) z.1))) stops_body stops_stmt
if_fill P = record {
  tokens = [];
  fills = λ t J a e st so. (stmt.If (t ∷ []) None, (([], None), a, (a, no_else_if, no_else), (refl, st)));
  ends = λ J a e st so. stmt_body_stops (J a) (ap (λ k. stops_stmt (J k)) (sym st) ∙ so);
}

-- behind `else` and `if` stands an arm
more_arms : {P : Places} {J : Stream} {z : Elsed} {n b : ℕ} → SeesElseIf J n → Elses P J z n b → stops_stmt (J b) ≡ true → (t : Arm) × (ts : List Arm) × (m : ℕ) × IsArm J P t (n + 1) m × Elses P J (ts, z.1) m b × ◌≡◌ {A = Elsed} z (t ∷ ts, z.1)
more_arms {P} {J} {z} {n} {b} h (m, a, o) st = by_arms a o st
  where
    no_body : {l k : ℕ} {ss : List Stmt} → J (n + 1) ≡ Some (kind.Word word.If) → MayBreak J (n + 1) l → IsBody J P ss l k → ⊥
    no_body {l} {k} {ss} w no_break d = false≢true (sym (ap begins_simple w) ∙ body_begins P J ss l k d)
    no_body w (break x) d = let c : Some kind.Newline ≡ Some (kind.Word word.If) = sym x ∙ w in cc

    by_arms : {ts : List Arm} {o : Option (List Stmt)} {m b : ℕ} → ElseIfs J P ts n m → MayElse J P o m b → stops_stmt (J b) ≡ true → (t : Arm) × (us : List Arm) × (k : ℕ) × IsArm J P t (n + 1) k × Elses P J (us, o) k b × ◌≡◌ {A = Elsed} (ts, o) (t ∷ us, o)
    by_arms (else_if w t ts) o st = (_, _, _, t, (_, ts, o), refl)
    by_arms no_else_if no_else st = absurd (false≢true (sym (ap stops_stmt h.0) ∙ st))
    by_arms no_else_if (else_body w k d) st = absurd (no_body h.1 k d)

-- without `else` nothing goes on
no_elses : {P : Places} {J : Stream} {z : Elsed} {n b : ℕ} → (SeesWord J n word.Else → ⊥) → Elses P J z n b → ◌≡◌ {A = Elsed} z ([], None) × (b ≡ n)
no_elses {P} {J} {z} {n} {b} h (m, a, o) = by_arms a o
  where
    by_arms : {ts : List Arm} {o : Option (List Stmt)} {m b : ℕ} → ElseIfs J P ts n m → MayElse J P o m b → ◌≡◌ {A = Elsed} (ts, o) ([], None) × (b ≡ n)
    by_arms (else_if w t ts) o = absurd (h w)
    by_arms no_else_if no_else = (refl, refl)
    by_arms no_else_if (else_body w k d) = absurd (h w)

-- the last `else`
abbrev pub LastElse : Places → Rule (List Stmt)
LastElse P = Tok (kind.Word word.Else) (Brk (Body P))

last_else : {P : Places} {J : Stream} {z : Elsed} {n b : ℕ} → SeesWord J n word.Else → (SeesWord J (n + 1) word.If → ⊥) → Elses P J z n b → stops_stmt (J b) ≡ true → (ss : List Stmt) × LastElse P J ss n b × ◌≡◌ {A = Elsed} z ([], Some ss)
last_else {P} {J} {z} {n} {b} h g (m, a, o) st = by_arms a o st
  where
    by_arms : {ts : List Arm} {o : Option (List Stmt)} {m b : ℕ} → ElseIfs J P ts n m → MayElse J P o m b → stops_stmt (J b) ≡ true → (ss : List Stmt) × LastElse P J ss n b × ◌≡◌ {A = Elsed} (ts, o) ([], Some ss)
    by_arms (else_if w t ts) o st = absurd (g (arm_word t))
    by_arms no_else_if no_else st = absurd (false≢true (sym (ap stops_stmt h) ∙ st))
    by_arms no_else_if (else_body w k d) st = (_, (w, (_, k, d)), refl)

module _ (K : Stream) (P : Places) {at : ℕ} (h : SeesWord K at word.If) where
  pub if_fails : {i : ℕ} → Refused (AnArm P) stops_body K at i → Refused (Statement P) stops_stmt K at i
  if_fails f = turn_bad (by (stmt_by P) stops_stmt K _ h) (sub_fails K (if_leads P) (if_fill P) f)

  pub if_first : {t : Arm} {n : ℕ} → Exact (AnArm P) stops_body K at t n → IfLoop P K at (t ∷ []) n
  if_first {t} {n} e = record {
    after = e.after;
    inside = e.inside;
    whole = λ J same z b r st. stmt_if (e.spelled J same (elses_lead r st)) r.1 r.2;
    only = λ J y b same r st.
        let q : Ifs P J y at b = subst (λ k. StmtBy P k J y at b) (same at e.after ∙ h) (stmt_enter r) in
        let w : stops_stmt (J q.3.1) ≡ true = ap (λ k. stops_stmt (J k)) (sym q.3.3.1) ∙ st in
        let o = e.only J q.0 q.1 same q.2 (elses_lead q.3.2 w) in
        (q.3.0, subst (λ k. Elses P J q.3.0 k b) o.1 (subst (λ k. Elses P J q.3.0 q.1 k) (sym q.3.3.1) q.3.2), q.3.3.0 ∙ ap (λ u. stmt.If (u ∷ q.3.0.0) q.3.0.1) o.0);
  }

module _ (K : Stream) (P : Places) {at : ℕ} (done : List Arm) {n : ℕ} (g : IfLoop P K at done n) where
  module _ (h : SeesElseIf K n) where
    pub if_step : {u : Arm} {m : ℕ} → Exact (AnArm P) stops_body K (n + 1) u m → IfLoop P K at (done ++ u ∷ []) m
    if_step {u} {m} e = let from = g.after in let l = e.after in record {
      after = omega arith;
      inside = inside_both K at n m g.inside (inside_more K (kind.Word word.Else) n m h.0 e.inside);
      whole = λ J same z b r st.
          subst (λ us. IsStmt J P (stmt.If us z.1) at b) (sym (append_assoc done (u ∷ []) z.0))
          (g.whole J (before n m (omega arith) same) (u ∷ z.0, z.1) b (_, else_if (same n (omega arith) ∙ h.0) (e.spelled J same (elses_lead r st)) r.1, r.2) st);
      only = λ J y b same r st.
          let q = g.only J y b (shorter n m (omega arith) same) r st in
          let p = more_arms (same n (omega arith) ∙ h.0, same (n + 1) (omega arith) ∙ h.1) q.1 st in
          let o = e.only J p.0 p.2 same p.3 (elses_lead p.4 st) in (
            (p.1, q.0.1),
            subst (λ k. Elses P J (p.1, q.0.1) k b) o.1 p.4,
            q.2 ∙ ap (λ w. stmt.If (done ++ w.0) w.1) p.5 ∙ ap (λ t. stmt.If (done ++ t ∷ p.1) q.0.1) o.0 ∙ ap (λ us. stmt.If us q.0.1) (sym (append_assoc done (u ∷ []) p.1)),
          );
    }

    pub if_arm_fails : {i : ℕ} → Refused (AnArm P) stops_body K (n + 1) i → Refused (Statement P) stops_stmt K at i
    if_arm_fails {i} f = let l = f.from in tail_fails (λ z. stmt.If (done ++ z.0) z.1) g (record {
      from = omega arith;
      inside = inside_more K (kind.Word word.Else) n i h.0 f.inside;
      never = λ J y b same r st.
          let p = more_arms (same n (omega arith) ∙ h.0, same (n + 1) (omega arith) ∙ h.1) r st in
          f.never J p.0 p.2 same p.3 (elses_lead p.4 st);
      viable = viable_more stmt_body_stops (λ J e same so v. ((v.0 ∷ [], None), (e, else_if (same n (omega arith) ∙ h.0) v.1 no_else_if, no_else))) f.viable;
    })

  pub if_none : (SeesWord K n word.Else → ⊥) → Exact (Statement P) stops_stmt K at (stmt.If done None) n
  if_none h = subst (λ us. Exact (Statement P) stops_stmt K at (stmt.If us None) n) (append-nil done) (tail_end (λ z. stmt.If (done ++ z.0) z.1) g {x = ([], None)} (record {
    after = le_refl n;
    inside = inside_none K n;
    spelled = λ J same so. (n, no_else_if, no_else);
    only = λ J y b same r st. no_elses (λ w. h (sym (same n (le_refl n)) ∙ w)) r;
  }))

  module _ (h : SeesWord K n word.Else) (f : SeesWord K (n + 1) word.If → ⊥) {l : ℕ} (t : BreaksTo K (n + 1) l) where
    pub if_else_ok : {ss : List Stmt} {m : ℕ} → Exact (Body P) stops_body K l ss m → Exact (Statement P) stops_stmt K at (stmt.If done (Some ss)) m
    if_else_ok {ss} {m} d =
        let x : Exact (Brk (Body P)) stops_body K (n + 1) ss m = brk_ok (Body P) stops_body K begins_simple (body_begins P) refl t d in
        let long = x.after in
        let e : Exact (LastElse P) stops_body K n ss m = tok_ok stops_body K h x in
        subst (λ us. Exact (Statement P) stops_stmt K at (stmt.If us (Some ss)) m) (append-nil done) (tail_end (λ z. stmt.If (done ++ z.0) z.1) g {x = ([], Some ss)} (record {
          after = e.after;
          inside = e.inside;
          spelled = λ J same so. let r = e.spelled J same (stmt_body_stops _ so) in (n, no_else_if, else_body r.0 r.1.1 r.1.2);
          only = λ J y b same r st.
              let q = last_else (same n (omega arith) ∙ h) (λ w. f (sym (same (n + 1) (omega arith)) ∙ w)) r st in
              let o = e.only J q.0 b same q.1 (stmt_body_stops _ st) in
              (q.2 ∙ ap (λ us. ([], Some us)) o.0, o.1);
        }))

    pub if_else_fails : {i : ℕ} → Refused (Body P) stops_body K l i → Refused (Statement P) stops_stmt K at i
    if_else_fails {i} d =
        let x : Refused (Brk (Body P)) stops_body K (n + 1) i = brk_fails (Body P) stops_body K begins_simple (body_begins P) refl t d in
        let long = x.from in
        let e : Refused (LastElse P) stops_body K n i = tok_fails stops_body K h x in
        tail_fails (λ z. stmt.If (done ++ z.0) z.1) g (record {
          from = e.from;
          inside = e.inside;
          never = λ J y b same r st.
              let q = last_else (same n (omega arith) ∙ h) (λ w. f (sym (same (n + 1) (omega arith)) ∙ w)) r st in
              e.never J q.0 b same q.1 (stmt_body_stops _ st);
          viable = viable_more stmt_body_stops (λ J e same so v. (([], Some v.0), (n, no_else_if, else_body v.1.0 v.1.1.1 v.1.1.2))) e.viable;
        })

-- none of the words of statements with blocks
pub blockless_token : (K : Stream) {at : ℕ} → (SeesWord K at word.If → ⊥) → (SeesWord K at word.While → ⊥) → (SeesWord K at word.For → ⊥) → (SeesWord K at word.Try → ⊥) → is_blockless (K at) ≡ true
blockless_token K {at} f g h i = by_token (K at) f g h i
  where
    by_token : (t : Option TokenKind) → (t ≡ Some (kind.Word word.If) → ⊥) → (t ≡ Some (kind.Word word.While) → ⊥) → (t ≡ Some (kind.Word word.For) → ⊥) → (t ≡ Some (kind.Word word.Try) → ⊥) → is_blockless t ≡ true
    by_token (Some (kind.Word word.If)) f g h i = absurd (f refl)
    by_token (Some (kind.Word word.While)) f g h i = absurd (g refl)
    by_token (Some (kind.Word word.For)) f g h i = absurd (h refl)
    by_token (Some (kind.Word word.Try)) f g h i = absurd (i refl)
    by_token t f g h i = refl
