-- The rules of `for`, for the calculus.
use Rattle.std.proofs.Common.{◌≡◌, ℕ, suc, ◌+◌, ◌-◌, ◌<◌, ◌≤◌, Bool, true, false, Option, Some, None, List, [], ◌∷◌, inl, inr, ⊎_elim, refl, sym, ap, ◌∙◌, subst, arith, leb, le_refl, pos}
use Rattle.std.specs.Prelude.{slice_get, length, MatchBool}
use Rattle.std.proofs.lemmas.Option.{slice_get_past}
use Rattle.std.proofs.lemmas.Bool.{false≢true}
use Rattle.std.proofs.lemmas.Bool.Decides.{nat_tests}
use Rattle.model_syntax.specs.declared.place.Declared.{Declared}
use Rattle.model_syntax.specs.declared.sign.Sign.TheVariants as sign
use Rattle.model_syntax.specs.declared.word.Word.TheVariants as word
use Rattle.model_syntax.specs.declared.token.TokenKind.{TokenKind}
use Rattle.model_syntax.specs.declared.token.TokenKind.TheVariants as kind
use Rattle.model_syntax.specs.declared.tree.Access.TheVariants.{Direct, NullSafe}
use Rattle.model_syntax.specs.declared.tree.Assignment.{Assignment}
use Rattle.model_syntax.specs.declared.tree.Assignment.TheVariants as assignment
use Rattle.model_syntax.specs.declared.tree.Expr.{Expr}
use Rattle.model_syntax.specs.declared.tree.Expr.TheVariants as expr
use Rattle.model_syntax.specs.declared.tree.Init.{Init}
use Rattle.model_syntax.specs.declared.tree.Init.TheVariants as init
use Rattle.model_syntax.specs.declared.tree.Stmt.{Stmt}
use Rattle.model_syntax.specs.declared.tree.Stmt.TheVariants as stmt
use Rattle.model_syntax.specs.declared.tree.Suffix.TheVariants.{Property, Index}
use Rattle.model_syntax.specs.declared.tree.Target.TheVariants.{ToName}
use Rattle.model_syntax.specs.Stream.{Stream, Places, Sees, SeesWord, SeesName, declared}
use Rattle.model_syntax.specs.Lookahead.{is_name, begins_argument}
use Rattle.model_syntax.specs.Operators.{rank_whole, for_steps}
use Rattle.model_syntax.specs.Grammar.{SeesType, type_def, type_name, dot, safe_dot, no_break, IsExpr, primary_number, Suffixes, suffixes_none, suffixes_property, suffixes_index, IsWhole, whole_expr, target_name, IsAssign, assign_up, IsInit, init_declare, init_assign, IsEach, each_plain, each_typed, block, stmts_none, no_separator, body_block}
use Rattle.model_syntax.proofs.GrammarLemmas.{just, begins_expr, assign_begins}
use Rattle.groovy_expr.specs.Answers.{Rule, Stops, Agrees, Before, Stands, Inside, Exact, Refused}
use Rattle.groovy_expr.specs.Stops.{stops_expr, stops_primary, stops_simple, stops_body, stops_stmt}
use Rattle.groovy_expr.specs.Updates.{is_update}
use Rattle.groovy_expr.specs.Firsts.{begins_suffix}
use Rattle.groovy_expr.specs.Statements.{behind_head, EachHead, each_head_plain, each_head_typed, EachRest, each_rest, StepsHead, steps_head, BeginsDeclaration, by_def, by_type}
use Rattle.groovy_expr.proofs.Calculus.{alike, Ret, Sub, Alt, Leads, leads_tok, leads_ret, Fill, Fills, fills_ret, fill_sub, viable_more, inside_more, inside_both, ret, tok_ok, tok_fails, tok_bad, sub_ok, sub_fails, sub_bad, NeverTo, alt_left, alt_right, alt_left_bad, alt_right_bad, moved, shorter, turn_ok, turn_bad, by}
use Rattle.groovy_expr.proofs.StatementCalculus.{FirstIn, a_name, inside_token, long, exact_less, refused_less, IsRule, rule_ok, rule_bad}
use Rattle.groovy_expr.proofs.StatementLookahead.{cut, cut_low, cut_high, name_expr}
use Rattle.groovy_expr.proofs.StatementWhole.{Expression, Whole, name_is}
use Rattle.groovy_expr.proofs.StatementSimple.{Assigning, assign_in, assign_second, update_begins, fill_expr}
use Rattle.groovy_expr.proofs.StatementBlocks.{Statement, Behind, Heads, heads_fails, heads_bad, heads_ok, behind_begins, is_close}
use Rattle.groovy_expr.proofs.StatementIfs.{AnInit, StepsEnd, StepsUpdate, StepsTest, StepsLoop, EachLoop, stmt_by, stmt_body_stops}

-- tokens that stand in a text one by one
stands : (J : Stream) (ts : List TokenKind) (i e : ℕ) → e ≡ i + length ts → ((d : ℕ) → d < length ts → J (i + d) ≡ slice_get ts d) → Stands J i ts e
stands J [] i e h f = omega arith
stands J (t ∷ ts) i e h f =
    let here : i + 0 ≡ i = omega arith in (
      subst (λ k. J k ≡ Some t) here (f 0 (omega arith)),
      stands J ts (i + 1) e (omega arith) (λ d l. let next : i + suc d ≡ i + 1 + d = omega arith in subst (λ k. J k ≡ slice_get ts d) next (f (suc d) (omega arith))),
    )

-- the tokens through p, and these behind them
with_tail : Stream → ℕ → List TokenKind → Stream
with_tail K p ts = cut K p (λ k. slice_get ts (k - (p + 1)))

low : (K : Stream) (p : ℕ) (ts : List TokenKind) → Agrees p (with_tail K p ts) K
unfolding with_tail
low K p ts k l = cut_low K p (λ k. slice_get ts (k - (p + 1))) k l

high : (K : Stream) (p : ℕ) (ts : List TokenKind) (d : ℕ) → with_tail K p ts (p + 1 + d) ≡ slice_get ts d
unfolding with_tail
high K p ts d = let e : p + 1 + d - (p + 1) ≡ d = omega arith in cut_high K p (λ k. slice_get ts (k - (p + 1))) (p + 1 + d) (omega arith) ∙ ap (slice_get ts) e

-- that the text through p goes on with these tokens
abbrev pub Continues : {A : Type 0} → Rule A → Stream → ℕ → ℕ → List TokenKind → Type 0
Continues {A} R K at p ts = (J : Stream) → Agrees p J K → (e : ℕ) → Stands J (p + 1) ts e → J e ≡ None → (y : A) × R J y at e

found : {A : Type 0} (R : Rule A) (stops : Stops) (K : Stream) (at p : ℕ) (ts : List TokenKind) → stops None ≡ true → Continues R K at p ts → (y : A) × R (with_tail K p ts) y at (p + 1 + length ts) × (stops (with_tail K p ts (p + 1 + length ts)) ≡ true)
found R stops K at p ts none f =
    let end : with_tail K p ts (p + 1 + length ts) ≡ None = high K p ts (length ts) ∙ slice_get_past ts (length ts) (le_refl (length ts)) in
    let r = f (with_tail K p ts) (low K p ts) (p + 1 + length ts) (stands (with_tail K p ts) ts (p + 1) (p + 1 + length ts) refl (λ d l. high K p ts d)) end in
    (r.0, r.1, ap stops end ∙ none)

module _ {A : Type 0} {R : Rule A} {stops : Stops} {K : Stream} {at : ℕ} (p : ℕ) (ts : List TokenKind) (none : stops None ≡ true) (f : Continues R K at p ts) where
  -- no refusal lies at p or before it
  pub goes_past : {i : ℕ} → Refused R stops K at i → p + 1 ≤ i
  goes_past {i} g = by_test (leb (p + 1) i) refl
    where
      by_test : (t : Bool) → leb (p + 1) i ≡ t → p + 1 ≤ i
      by_test true e = grind (arith, nat_tests)
      by_test false e = let le : i ≤ p = grind (arith, nat_tests) in let w = found R stops K at p ts none f in absurd (g.never (with_tail K p ts) w.0 (p + 1 + length ts) (shorter i p le (low K p ts)) w.1 w.2)

  -- and nothing ends there
  pub reaches : {x : A} {n : ℕ} → Exact R stops K at x n → p + 1 ≤ n
  reaches {x} {n} g = by_test (leb (p + 1) n) refl
    where
      by_test : (t : Bool) → leb (p + 1) n ≡ t → p + 1 ≤ n
      by_test true e = grind (arith, nat_tests)
      by_test false e =
          let le : n ≤ p = grind (arith, nat_tests) in
          let w = found R stops K at p ts none f in
          let o = g.only (with_tail K p ts) w.0 (p + 1 + length ts) (shorter n p le (low K p ts)) w.1 w.2 in
          let z = o.1 in
          absurd (omega arith)

-- where a suffix begins, no refusal lies on its first token
pub past_suffix : {K : Stream} {P : Places} {n i : ℕ} → begins_suffix (K n) ≡ true → Refused (λ K s. Suffixes K P (s ∷ [])) stops_primary K n i → n + 1 ≤ i
past_suffix {K} {P} {n} {i} h f = by_token (K n) h refl
  where
    by_token : (t : Option TokenKind) → begins_suffix t ≡ true → K n ≡ t → n + 1 ≤ i
    by_token (Some (kind.Sign sign.Dot)) g e = goes_past n (kind.Name a_name ∷ []) refl (λ J same k st end. (Property Direct a_name, subst (λ z. Suffixes J P (Property Direct a_name ∷ []) n z) (sym st.1) (suffixes_property (dot (same n (le_refl n) ∙ e)) st.0 suffixes_none))) f
    by_token (Some (kind.Sign sign.SafeDot)) g e = goes_past n (kind.Name a_name ∷ []) refl (λ J same k st end. (Property NullSafe a_name, subst (λ z. Suffixes J P (Property NullSafe a_name ∷ []) n z) (sym st.1) (suffixes_property (safe_dot (same n (le_refl n) ∙ e)) st.0 suffixes_none))) f
    by_token (Some (kind.Sign sign.BracketOpen)) g e = goes_past n (kind.Int (pos 0) ∷ kind.Sign sign.BracketClose ∷ []) refl (λ J same k st end. (Index (expr.Number (pos 0)), subst (λ z. Suffixes J P (Index (expr.Number (pos 0)) ∷ []) n z) (sym st.1.1) (suffixes_index (same n (le_refl n) ∙ e) (just (primary_number st.0)) st.1.0 suffixes_none))) f
    by_token t g e = absurd (false≢true g)

-- types before names
pub type_along : {J K : Stream} {a : ℕ} → J a ≡ K a → SeesType K a → SeesType J a
type_along e (type_def w) = type_def (e ∙ w)
type_along e (type_name w) = type_name (e ∙ w)

-- no assignment begins with a type and a name
no_typed_assign : {J : Stream} {P : Places} {n : List ℕ} {y : Assignment} {a b : ℕ} → SeesType J a → SeesName J (a + 1) n → IsAssign J P y a b → ⊥
no_typed_assign (type_def w) g r = false≢true (sym (ap begins_expr w) ∙ assign_begins r)
no_typed_assign (type_name w) g r = assign_second r (ap is_name w) (ap begins_argument g)

-- the first part of a `for` with steps
abbrev pub begins_init : Option TokenKind → Bool
begins_init (Some (kind.Word word.Def)) = true
begins_init t = begins_expr t

expr_init : (t : Option TokenKind) → begins_expr t ≡ true → begins_init t ≡ true
expr_init (Some (kind.Word word.Def)) e = refl
expr_init t e = e

pub init_begins : (P : Places) → FirstIn (AnInit P) begins_init
init_begins P J y a b (init_declare (type_def w) n s e) = ap begins_init w
init_begins P J y a b (init_declare (type_name w) n s e) = ap begins_init w
init_begins P J y a b (init_assign r) = expr_init (J a) (assign_begins r)

abbrev pub declares : List ℕ → Places → ℕ → Expr → Init
declares n P a e = init.Declare (declared n (P (a + 1))) e

-- a name `x`, and `x++`
init_value : (J : Stream) (P : Places) {n : List ℕ} {a e : ℕ} → SeesType J a → SeesName J (a + 1) n → Stands J (a + 1 + 1) (kind.Sign sign.Assign ∷ kind.Int (pos 0) ∷ []) e → (y : Init) × IsInit J P y a e
init_value J P {n} {a} {e} t g st = (declares n P a (expr.Number (pos 0)), subst (λ k. IsInit J P (declares n P a (expr.Number (pos 0))) a k) (sym st.1.1) (init_declare t g st.0 (whole_expr (rw st.1.0 refl) (just (primary_number st.1.0)))))

module _ (K : Stream) (P : Places) {at : ℕ} where
  pub init_no_name : SeesWord K at word.Def → ((n : List ℕ) → SeesName K (at + 1) n → ⊥) → Refused (AnInit P) stops_simple K at (at + 1)
  init_no_name h f = record {
    from = omega arith;
    inside = inside_token K (kind.Word word.Def) at h;
    never = λ J y b same r st. never same r;
    viable = record {
      closing = kind.Name a_name ∷ kind.Sign sign.Assign ∷ kind.Int (pos 0) ∷ [];
      closes = λ J e same st so. init_value J P (type_def (same at (omega arith) ∙ h)) st.0 st.1;
    };
  }
    where
      never : {J : Stream} {y : Init} {b : ℕ} → Agrees (at + 1) J K → IsInit J P y at b → ⊥
      never same (init_declare t n s e) = f _ (sym (same (at + 1) (le_refl (at + 1))) ∙ n)
      never {J} same (init_assign r) = false≢true (sym (ap begins_expr (same at (omega arith) ∙ h)) ∙ assign_begins r)

  module _ (t : SeesType K at) {n : List ℕ} (g : SeesName K (at + 1) n) where
    typed_inside : Inside K at (at + 1 + 1)
    typed_inside = by_type t
      where
        by_type : SeesType K at → Inside K at (at + 1 + 1)
        by_type (type_def w) = inside_more K (kind.Word word.Def) at (at + 1 + 1) w (inside_token K (kind.Name n) (at + 1) g)
        by_type (type_name {t = m} w) = inside_more K (kind.Name m) at (at + 1 + 1) w (inside_token K (kind.Name n) (at + 1) g)

    pub init_no_value : (Sees K (at + 1 + 1) sign.Assign → ⊥) → Refused (AnInit P) stops_simple K at (at + 1 + 1)
    init_no_value f = record {
      from = omega arith;
      inside = typed_inside;
      never = λ J y b same r st. never same r;
      viable = record {
        closing = kind.Sign sign.Assign ∷ kind.Int (pos 0) ∷ [];
        closes = λ J e same st so. init_value J P (type_along (same at (omega arith)) t) (same (at + 1) (omega arith) ∙ g) st;
      };
    }
      where
        never : {J : Stream} {y : Init} {b : ℕ} → Agrees (at + 1 + 1) J K → IsInit J P y at b → ⊥
        never same (init_declare u m s e) = f (sym (same (at + 1 + 1) (le_refl (at + 1 + 1))) ∙ s)
        never {J} same (init_assign r) = no_typed_assign (type_along (same at (omega arith)) t) (same (at + 1) (omega arith) ∙ g) r

    module _ (s : Sees K (at + 1 + 1) sign.Assign) where
      init_is : {J : Stream} {y : Init} {b i : ℕ} → at + 1 + 1 ≤ i → Agrees i J K → IsInit J P y at b → (e : Expr) × IsWhole J P e (at + 1 + 1 + 1) b × (y ≡ declares n P at e)
      init_is le same (init_declare {n = m} {e = e} u k z w) = (e, w, ap (λ x. declares x P at e) (same_name m n (sym k ∙ same (at + 1) (omega arith) ∙ g)))
        where
          same_name : (n m : List ℕ) → Some (kind.Name n) ≡ Some (kind.Name m) → n ≡ m
          same_name n m e = cc
      init_is le same (init_assign r) = absurd (no_typed_assign (type_along (same at (omega arith)) t) (same (at + 1) (omega arith) ∙ g) r)

      pub init_ok : {e : Expr} {m : ℕ} → Exact (Whole P) stops_simple K (at + 1 + 1 + 1) e m → Exact (AnInit P) stops_simple K at (declares n P at e) m
      init_ok {e} {m} x = let l = x.after in record {
        after = omega arith;
        inside = inside_both K at (at + 1 + 1) m typed_inside (inside_more K (kind.Sign sign.Assign) (at + 1 + 1) m s x.inside);
        spelled = λ J same so. init_declare (type_along (same at (omega arith)) t) (same (at + 1) (omega arith) ∙ g) (same (at + 1 + 1) (omega arith) ∙ s) (x.spelled J same so);
        only = λ J y b same r st.
            let q = init_is (omega arith) same r in
            let o = x.only J q.0 b same q.1 st in
            (q.2 ∙ ap (declares n P at) o.0, o.1);
      }

      pub init_fails : {i : ℕ} → Refused (Whole P) stops_simple K (at + 1 + 1 + 1) i → Refused (AnInit P) stops_simple K at i
      init_fails {i} f = let l = f.from in record {
        from = omega arith;
        inside = inside_both K at (at + 1 + 1) i typed_inside (inside_more K (kind.Sign sign.Assign) (at + 1 + 1) i s f.inside);
        never = λ J y b same r st. let q = init_is (omega arith) same r in f.never J q.0 b same q.1 st;
        viable = viable_more (alike _) (λ J e same so v. (declares n P at v.0, init_declare (type_along (same at (omega arith)) t) (same (at + 1) (omega arith) ∙ g) (same (at + 1 + 1) (omega arith) ∙ s) v.1)) f.viable;
      }

  -- no type and name stand there
  module _ (f : SeesWord K at word.Def → ⊥) (h : is_name (K at) ≡ true → is_name (K (at + 1)) ≡ true → ⊥) where
    init_assigns : {J : Stream} {y : Init} {b i : ℕ} → at ≤ i → (is_name (K at) ≡ true → at + 1 ≤ i) → Agrees i J K → IsInit J P y at b → (u : Assignment) × IsAssign J P u at b × (y ≡ init.Assign u)
    init_assigns le far same (init_assign r) = (_, r, refl)
    init_assigns le far same (init_declare (type_def w) n s e) = absurd (f (sym (same at le) ∙ w))
    init_assigns le far same (init_declare (type_name w) n s e) =
        let k : is_name (K at) ≡ true = ap is_name (sym (same at le) ∙ w) in
        absurd (h k (ap is_name (sym (same (at + 1) (far k)) ∙ n)))

    pub init_assign_ok : {y : Assignment} {m : ℕ} → Exact (Assigning P) stops_simple K at y m → Exact (AnInit P) stops_simple K at (init.Assign y) m
    init_assign_ok {y} {m} e = let lt = long begins_expr (λ J x a b r. assign_begins r) refl refl e in record {
      after = e.after;
      inside = e.inside;
      spelled = λ J same so. init_assign (e.spelled J same so);
      only = λ J x b same r st.
          let q = init_assigns e.after (λ k. omega arith) same r in
          let o = e.only J q.0 b same q.1 st in
          (q.2 ∙ ap init.Assign o.0, o.1);
    }

    pub init_assign_fails : {i : ℕ} → Refused (Assigning P) stops_simple K at i → Refused (AnInit P) stops_simple K at i
    init_assign_fails {i} d = record {
      from = d.from;
      inside = d.inside;
      never = λ J x b same r st. let q = init_assigns d.from past_name same r in d.never J q.0 b same q.1 st;
      viable = viable_more (alike _) (λ J e same so v. (init.Assign v.0, init_assign v.1)) d.viable;
    }
      where
        past_name : is_name (K at) ≡ true → at + 1 ≤ i
        past_name k =
            let m = name_is (K at) k in
            goes_past at (kind.Sign sign.Increment ∷ []) refl (λ J same e st end. (assignment.Increment (ToName m.0), subst (λ z. IsAssign J P (assignment.Increment (ToName m.0)) at z) (sym st.1) (assign_up (target_name (same at (le_refl at) ∙ m.1)) st.0))) d

-- `for` with steps
abbrev pub Steps : Places → Rule Stmt
Steps P K = StepsHead K P

steps_in : {P : Places} {J : Stream} {y : Stmt} {a b : ℕ} → StepsHead J P y a b → StepsLoop P J y a b
steps_in (steps_head i s e t u d) = (_, _, i, (s, (_, _, e, (t, (_, _, u, (_, _, d, (refl, refl)))))))

steps_out : {P : Places} {J : Stream} {y : Stmt} {a b : ℕ} → StepsLoop P J y a b → StepsHead J P y a b
steps_out {P} {J} {y} {a} {b} r = moved (λ z k. StepsHead J P z a k) r.3.1.3.1.3.3 (steps_head r.2 r.3.0 r.3.1.2 r.3.1.3.0 r.3.1.3.1.2 r.3.1.3.1.3.2)

steps_rule : (P : Places) → IsRule (Steps P) (StepsLoop P)
steps_rule P = record { enter = steps_in; leave = steps_out }

semicolon_expr : stops_expr (Some (kind.Sign sign.Semicolon)) ≡ true
semicolon_expr = refl

test_leads : (P : Places) → Leads (StepsTest P) stops_simple stops_body
test_leads P = leads_tok stops_simple stops_body (λ i. kind.Sign sign.Semicolon) (λ i. Sub (Expression P) (StepsUpdate P i)) (λ i. refl)

update_leads : (P : Places) (i : Init) → Leads (StepsUpdate P i) stops_expr stops_body
update_leads P i = leads_tok stops_expr stops_body (λ e. kind.Sign sign.Semicolon) (λ e. Sub (Assigning P) (StepsEnd P i e)) (λ e. refl)

end_leads : (P : Places) (i : Init) (e : Expr) → Leads (StepsEnd P i e) stops_simple stops_body
end_leads P i e u J y a b r st = by_close (J a) (behind_begins P J r.0 a r.1 r.2)
  where
    by_close : (t : Option TokenKind) → is_close t ≡ true → stops_simple t ≡ true
    by_close (Some (kind.Sign sign.ParenClose)) h = refl
    by_close t h = absurd (false≢true h)

body_leads : (f : List Stmt → Stmt) → Leads (λ ss. Ret (f ss)) stops_body stops_body
body_leads f = leads_ret stops_body stops_body f (alike _)

fill_assign : (P : Places) → Fill (Assigning P) stops_simple
fill_assign P = record {
  tokens = kind.Name a_name ∷ kind.Sign sign.Increment ∷ [];
  fills = λ J a e st so. (assignment.Increment (ToName a_name), subst (λ z. IsAssign J P (assignment.Increment (ToName a_name)) a z) (sym st.1.1) (assign_up (target_name st.0) st.1.0));
}

end_fills : (P : Places) (i : Init) (e : Expr) → Fills (StepsEnd P i e) stops_simple stops_body
end_fills P i e = record {
  tokens = kind.Sign sign.ParenClose ∷ kind.Sign sign.BraceOpen ∷ kind.Sign sign.BraceClose ∷ [];
  fills = λ u J a b st so. (for_steps i e u [], ([], _, behind_head st.0 no_break (body_block (block st.1.0 (stmts_none no_separator) st.1.1.0)), (refl, st.1.1.1)));
  ends = λ J a b st so. ap stops_simple st.0;
}

update_fills : (P : Places) (i : Init) → Fills (StepsUpdate P i) stops_expr stops_body
update_fills P i = record {
  tokens = kind.Sign sign.Semicolon ∷ kind.Name a_name ∷ kind.Sign sign.Increment ∷ kind.Sign sign.ParenClose ∷ kind.Sign sign.BraceOpen ∷ kind.Sign sign.BraceClose ∷ [];
  fills = λ e J a b st so. (
    for_steps i e (assignment.Increment (ToName a_name)) [],
    (
      st.0,
      (
        _,
        _,
        assign_up (target_name st.1.0) st.1.1.0,
        ([], _, behind_head st.1.1.1.0 no_break (body_block (block st.1.1.1.1.0 (stmts_none no_separator) st.1.1.1.1.1.0)), (refl, st.1.1.1.1.1.1)),
      ),
    ),
  );
  ends = λ J a b st so. ap stops_expr st.0;
}

-- what goes on with any first statement
abbrev rest_tokens : List TokenKind
rest_tokens = kind.Sign sign.Semicolon ∷ kind.Int (pos 0) ∷ kind.Sign sign.Semicolon ∷ kind.Name a_name ∷ kind.Sign sign.Increment ∷ kind.Sign sign.ParenClose ∷ kind.Sign sign.BraceOpen ∷ kind.Sign sign.BraceClose ∷ []

test_of : (P : Places) (i : Init) (J : Stream) (a b : ℕ) → Stands J a rest_tokens b → (y : Stmt) × StepsTest P i J y a b
test_of P i J a b st = (
  for_steps i (expr.Number (pos 0)) (assignment.Increment (ToName a_name)) [],
  (
    st.0,
    (
      _,
      _,
      just (primary_number st.1.0),
      (
        st.1.1.0,
        (
          _,
          _,
          assign_up (target_name st.1.1.1.0) st.1.1.1.1.0,
          ([], _, behind_head st.1.1.1.1.1.0 no_break (body_block (block st.1.1.1.1.1.1.0 (stmts_none no_separator) st.1.1.1.1.1.1.1.0)), (refl, st.1.1.1.1.1.1.1.1)),
        ),
      ),
    ),
  ),
)

test_fills : (P : Places) → Fills (StepsTest P) stops_simple stops_body
test_fills P = record {
  tokens = rest_tokens;
  fills = λ i J a b st so. test_of P i J a b st;
  ends = λ J a b st so. ap stops_simple st.0;
}

module _ (K : Stream) (P : Places) {at : ℕ} where
  pub steps_init_fails : {i : ℕ} → Refused (AnInit P) stops_simple K at i → Refused (Steps P) stops_body K at i
  steps_init_fails f = rule_bad (steps_rule P) (sub_fails K (test_leads P) (test_fills P) f)

  module _ {i : Init} {k : ℕ} (e : Exact (AnInit P) stops_simple K at i k) where
    pub steps_no_test : (Sees K k sign.Semicolon → ⊥) → Refused (Steps P) stops_body K at k
    steps_no_test h = rule_bad (steps_rule P) (sub_bad K (test_leads P) e (tok_bad stops_body K (fill_sub (fill_expr P stops_expr) (update_fills P i)) h))

    module _ (s : Sees K k sign.Semicolon) where
      pub steps_test_fails : {j : ℕ} → Refused (Expression P) stops_expr K (k + 1) j → Refused (Steps P) stops_body K at j
      steps_test_fails f = rule_bad (steps_rule P) (sub_bad K (test_leads P) e (tok_fails stops_body K s (sub_fails K (update_leads P i) (update_fills P i) f)))

      module _ {x : Expr} {l : ℕ} (d : Exact (Expression P) stops_expr K (k + 1) x l) where
        pub steps_no_update : (Sees K l sign.Semicolon → ⊥) → Refused (Steps P) stops_body K at l
        steps_no_update h = rule_bad (steps_rule P) (sub_bad K (test_leads P) e (tok_fails stops_body K s (sub_bad K (update_leads P i) d (tok_bad stops_body K (fill_sub (fill_assign P) (end_fills P i x)) h))))

        module _ (t : Sees K l sign.Semicolon) where
          pub steps_update_fails : {j : ℕ} → Refused (Assigning P) stops_simple K (l + 1) j → Refused (Steps P) stops_body K at j
          steps_update_fails f = rule_bad (steps_rule P) (sub_bad K (test_leads P) e (tok_fails stops_body K s (sub_bad K (update_leads P i) d (tok_fails stops_body K t (sub_fails K (end_leads P i x) (end_fills P i x) f)))))

          module _ {u : Assignment} {m : ℕ} (g : Exact (Assigning P) stops_simple K (l + 1) u m) where
            pub steps_behind_fails : {j : ℕ} → Refused (Behind P) stops_body K m j → Refused (Steps P) stops_body K at j
            steps_behind_fails f = rule_bad (steps_rule P) (sub_bad K (test_leads P) e (tok_fails stops_body K s (sub_bad K (update_leads P i) d (tok_fails stops_body K t (sub_bad K (end_leads P i x) g (sub_fails K (body_leads (for_steps i x u)) (fills_ret (for_steps i x u) (alike _)) f))))))

            pub steps_ok : {ss : List Stmt} {n : ℕ} → Exact (Behind P) stops_body K m ss n → Exact (Steps P) stops_body K at (for_steps i x u ss) n
            steps_ok f = rule_ok (steps_rule P) (sub_ok K (test_leads P) e (tok_ok stops_body K s (sub_ok K (update_leads P i) d (tok_ok stops_body K t (sub_ok K (end_leads P i x) g (sub_ok K (body_leads (for_steps i x u)) f (ret stops_body K _ _)))))))

-- `for` through values
abbrev pub Each : Places → Declared → Rule Stmt
Each P d K = EachRest K P d

each_rest_in : {P : Places} {d : Declared} {J : Stream} {y : Stmt} {a b : ℕ} → EachRest J P d y a b → Sub (Expression P) (Heads P (stmt.ForEach d)) J y a b
each_rest_in (each_rest e h) = (_, _, e, (_, _, h, (refl, refl)))

each_rest_out : {P : Places} {d : Declared} {J : Stream} {y : Stmt} {a b : ℕ} → Sub (Expression P) (Heads P (stmt.ForEach d)) J y a b → EachRest J P d y a b
each_rest_out {P} {d} {J} {y} {a} {b} r = moved (λ z k. EachRest J P d z a k) r.3.3 (each_rest r.2 r.3.2)

each_rest_rule : (P : Places) (d : Declared) → IsRule (Each P d) (Sub (Expression P) (Heads P (stmt.ForEach d)))
each_rest_rule P d = record { enter = each_rest_in; leave = each_rest_out }

module _ (K : Stream) (P : Places) (d : Declared) {at : ℕ} where
  pub each_fails : {i : ℕ} → Refused (Expression P) stops_expr K at i → Refused (Each P d) stops_body K at i
  each_fails f = rule_bad (each_rest_rule P d) (heads_fails P (stmt.ForEach d) K f)

  pub each_bad : {x : Expr} {m i : ℕ} → Exact (Expression P) stops_expr K at x m → Refused (Behind P) stops_body K m i → Refused (Each P d) stops_body K at i
  each_bad e f = rule_bad (each_rest_rule P d) (heads_bad P (stmt.ForEach d) K e f)

  pub each_ok : {x : Expr} {ss : List Stmt} {m n : ℕ} → Exact (Expression P) stops_expr K at x m → Exact (Behind P) stops_body K m ss n → Exact (Each P d) stops_body K at (stmt.ForEach d x ss) n
  each_ok e f = rule_ok (each_rest_rule P d) (heads_ok P (stmt.ForEach d) K e f)

-- the name of a for head
head_parts : {J : Stream} {P : Places} {d : Declared} {e : Expr} {a b : ℕ} → IsEach J P d e a b → (v : ℕ) × EachHead J P d a v × IsExpr J P rank_whole e v b
head_parts (each_plain n w e) = (_, each_head_plain n w, e)
head_parts (each_typed t n w e) = (_, each_head_typed t n w, e)

head_makes : {J : Stream} {P : Places} {d : Declared} {e : Expr} {a v b : ℕ} → EachHead J P d a v → IsExpr J P rank_whole e v b → IsEach J P d e a b
head_makes (each_head_plain n w) e = each_plain n w e
head_makes (each_head_typed t n w) e = each_typed t n w e

head_along : {J K : Stream} {P : Places} {d : Declared} {a v : ℕ} → EachHead K P d a v → Before v J K → EachHead J P d a v
head_along {J} {K} {P} {d} {a} (each_head_plain n w) same = each_head_plain (same a (omega arith) ∙ n) (same (a + 1) (omega arith) ∙ w)
head_along {J} {K} {P} {d} {a} (each_head_typed t n w) same = each_head_typed (type_along (same a (omega arith)) t) (same (a + 1) (omega arith) ∙ n) (⊎_elim (λ z. inl (same (a + 1 + 1) (omega arith) ∙ z)) (λ z. inr (same (a + 1 + 1) (omega arith) ∙ z)) w)

head_inside : {K : Stream} {P : Places} {d : Declared} {a v : ℕ} → EachHead K P d a v → Inside K a v
head_inside {K} {P} {d} {a} (each_head_plain {n = n} k w) = inside_more K (kind.Name n) a (a + 1 + 1) k (inside_token K (kind.Word word.In) (a + 1) w)
head_inside {K} {P} {d} {a} (each_head_typed {n = n} t k w) = by_type t
  where
    third : Inside K (a + 1 + 1) (a + 1 + 1 + 1)
    third = ⊎_elim (λ z. inside_token K (kind.Word word.In) (a + 1 + 1) z) (λ z. inside_token K (kind.Sign sign.Colon) (a + 1 + 1) z) w

    by_type : SeesType K a → Inside K a (a + 1 + 1 + 1)
    by_type (type_def x) = inside_more K (kind.Word word.Def) a (a + 1 + 1 + 1) x (inside_more K (kind.Name n) (a + 1) (a + 1 + 1 + 1) k third)
    by_type (type_name {t = m} x) = inside_more K (kind.Name m) a (a + 1 + 1 + 1) x (inside_more K (kind.Name n) (a + 1) (a + 1 + 1 + 1) k third)

head_after : {K : Stream} {P : Places} {d : Declared} {a v : ℕ} → EachHead K P d a v → a < v
head_after (each_head_plain n w) = omega arith
head_after (each_head_typed t n w) = omega arith

name_in : {n : List ℕ} {t : Option TokenKind} → t ≡ Some (kind.Name n) → t ≡ Some (kind.Word word.In) → ⊥
name_in {n} h g = let z : Some (kind.Name n) ≡ Some (kind.Word word.In) = sym h ∙ g in cc

-- no head of a loop through values
pub no_head_type : {K : Stream} {P : Places} {a : ℕ} → (SeesType K a → ⊥) → (d : Declared) (v : ℕ) → EachHead K P d a v → ⊥
no_head_type f d v (each_head_plain n x) = f (type_name n)
no_head_type f d v (each_head_typed t n x) = f t

-- no declaration begins
pub no_declaration : {K : Stream} {a : ℕ} → (SeesWord K a word.Def → ⊥) → ((n : List ℕ) → SeesName K a n → ⊥) → BeginsDeclaration K a → ⊥
no_declaration f g (by_def w) = f w
no_declaration {K} {a} f g (by_type n m) = let q = name_is (K a) n in g q.0 q.1

pub declaration_test : (K : Stream) {a : ℕ} {L : Type 0} {n : List ℕ} (b : Bool) → b ≡ is_name (K (a + 1)) → (SeesWord K a word.Def → ⊥) → SeesName K a n → L → MatchBool b (BeginsDeclaration K a × L) (BeginsDeclaration K a → ⊥)
declaration_test K true e f h l = (by_type (ap is_name h) (sym e), l)
declaration_test K {a} {L} {n} false e f h l = not_one
  where
    not_one : BeginsDeclaration K a → ⊥
    not_one (by_def w) = f w
    not_one (by_type x m) = false≢true (e ∙ m)

-- what a declaration that begins says
pub declaration_type : {K : Stream} {a : ℕ} → BeginsDeclaration K a → SeesType K a
declaration_type (by_def w) = type_def w
declaration_type {K} {a} (by_type n m) = type_name (name_is (K a) n).1

pub declaration_def : {K : Stream} {a : ℕ} → BeginsDeclaration K a → ((n : List ℕ) → SeesName K (a + 1) n → ⊥) → SeesWord K a word.Def
declaration_def (by_def w) f = w
declaration_def {K} {a} (by_type n m) f = absurd (f _ (name_is (K (a + 1)) m).1)

pub not_def : {K : Stream} {a : ℕ} → (BeginsDeclaration K a → ⊥) → SeesWord K a word.Def → ⊥
not_def f w = f (by_def w)

pub not_both : {K : Stream} {a : ℕ} → (BeginsDeclaration K a → ⊥) → is_name (K a) ≡ true → is_name (K (a + 1)) ≡ true → ⊥
not_both f n m = f (by_type n m)

head_once : {J : Stream} {P : Places} {d f : Declared} {a v w : ℕ} → EachHead J P d a v → EachHead J P f a w → (d ≡ f) × (v ≡ w)
head_once {J} {P} {d} {f} {a} (each_head_plain {n = n} k w) (each_head_plain {n = m} l x) = (ap (λ z. declared z (P a)) (same_name n m (sym k ∙ l)), refl)
  where
    same_name : (n m : List ℕ) → Some (kind.Name n) ≡ Some (kind.Name m) → n ≡ m
    same_name n m e = cc
head_once (each_head_plain k w) (each_head_typed t l x) = absurd (name_in l w)
head_once (each_head_typed t k w) (each_head_plain l x) = absurd (name_in k x)
head_once {J} {P} {d} {f} {a} (each_head_typed {n = n} t k w) (each_head_typed {n = m} u l x) = (ap (λ z. declared z (P (a + 1))) (same_name n m (sym k ∙ l)), refl)
  where
    same_name : (n m : List ℕ) → Some (kind.Name n) ≡ Some (kind.Name m) → n ≡ m
    same_name n m e = cc

-- behind a name that is all of an expression stands the sign of an assignment
assign_after_name : {J : Stream} {P : Places} {y : Assignment} {a b : ℕ} → IsAssign J P y a b → is_name (J a) ≡ true → stops_expr (J (a + 1)) ≡ true → is_update (J (a + 1)) ≡ true
assign_after_name {J} {P} {y} {a} r n st =
    let q = assign_in r in
    let o = name_expr q.2 (name_is (J a) n).1 st in
    ap (λ k. is_update (J k)) (sym o.1) ∙ update_begins q.3.2

-- behind such a head no first statement of steps stands
head_no_init : {J : Stream} {P : Places} {d : Declared} {y : Init} {a v b : ℕ} → EachHead J P d a v → IsInit J P y a b → ⊥
head_no_init (each_head_plain k w) (init_declare t n s e) = name_in n w
head_no_init {J} {P} {d} {y} {a} (each_head_plain k w) (init_assign r) = assign_in_clash r k w
  where
    assign_in_clash : {y : Assignment} {n : List ℕ} {b : ℕ} → IsAssign J P y a b → SeesName J a n → SeesWord J (a + 1) word.In → ⊥
    assign_in_clash r k w = no_update (J (a + 1)) w (assign_after_name r (ap is_name k) (ap stops_expr w))
      where
        no_update : (t : Option TokenKind) → t ≡ Some (kind.Word word.In) → is_update t ≡ true → ⊥
        no_update t e h = false≢true (sym (ap is_update e) ∙ h)
head_no_init (each_head_typed t k w) (init_assign r) = no_typed_assign t k r
head_no_init {J} {P} {d} {y} {a} (each_head_typed t k w) (init_declare u n s e) = ⊎_elim
    (λ z. let c : Some (kind.Word word.In) ≡ Some (kind.Sign sign.Assign) = sym z ∙ s in cc)
    (λ z. let c : Some (kind.Sign sign.Colon) ≡ Some (kind.Sign sign.Assign) = sym z ∙ s in cc) w

-- a declaration with these tokens behind it begins steps
steps_from : {J : Stream} {P : Places} {n : List ℕ} {a e : ℕ} → SeesType J a → SeesName J (a + 1) n → Sees J (a + 1 + 1) sign.Assign → J (a + 1 + 1 + 1) ≡ Some (kind.Int (pos 0)) → Stands J (a + 1 + 1 + 1 + 1) rest_tokens e → (y : Stmt) × StepsHead J P y a e
steps_from {J} {P} {n} {a} {e} t g s v st =
    let i : IsInit J P (declares n P a (expr.Number (pos 0))) a (a + 1 + 1 + 1 + 1) = init_declare t g s (whole_expr (rw v refl) (just (primary_number v))) in
    let r = test_of P (declares n P a (expr.Number (pos 0))) J (a + 1 + 1 + 1 + 1) e st in
    (r.0, steps_out (_, _, i, r.1))

-- a `for`
abbrev pub ForHead : Places → Rule Stmt
ForHead P = Alt (EachLoop P) (StepsLoop P)

fill_for : (P : Places) → Fill (ForHead P) stops_stmt
fill_for P = record {
  tokens = kind.Name a_name ∷ kind.Word word.In ∷ kind.Int (pos 0) ∷ kind.Sign sign.ParenClose ∷ kind.Sign sign.BraceOpen ∷ kind.Sign sign.BraceClose ∷ [];
  fills = λ J a e st so. (
    stmt.ForEach (declared a_name (P a)) (expr.Number (pos 0)) [],
    inl (_, _, _, each_plain st.0 st.1.0 (just (primary_number st.1.1.0)), ([], _, behind_head st.1.1.1.0 no_break (body_block (block st.1.1.1.1.0 (stmts_none no_separator) st.1.1.1.1.1.0)), (refl, st.1.1.1.1.1.1))),
  );
}

module _ (K : Stream) (P : Places) {at : ℕ} (h : SeesWord K at word.For) where
  pub for_no_head : (Sees K (at + 1) sign.ParenOpen → ⊥) → Refused (Statement P) stops_stmt K at (at + 1)
  for_no_head f = turn_bad (by (stmt_by P) stops_stmt K _ h) (tok_fails stops_stmt K h (tok_bad stops_stmt K (fill_for P) f))

  module _ (o : Sees K (at + 1) sign.ParenOpen) where
    for_ok : {y : Stmt} {n : ℕ} → Exact (ForHead P) stops_stmt K (at + 1 + 1) y n → Exact (Statement P) stops_stmt K at y n
    for_ok e = turn_ok (by (stmt_by P) stops_stmt K _ h) (tok_ok stops_stmt K h (tok_ok stops_stmt K o e))

    for_fails : {i : ℕ} → Refused (ForHead P) stops_stmt K (at + 1 + 1) i → Refused (Statement P) stops_stmt K at i
    for_fails f = turn_bad (by (stmt_by P) stops_stmt K _ h) (tok_fails stops_stmt K h (tok_fails stops_stmt K o f))

    -- through values
    module _ {d : Declared} {v : ℕ} (g : EachHead K P d (at + 1 + 1) v) where
      no_steps : {i : ℕ} → v ≤ i → NeverTo i (StepsLoop P) stops_stmt K (at + 1 + 1)
      no_steps le J y b same r st = head_no_init (head_along g (λ k l. same k (omega arith))) r.2

      each_of : {J : Stream} {y : Stmt} {i b : ℕ} → v ≤ i → Agrees i J K → EachLoop P J y (at + 1 + 1) b → EachRest J P d y v b
      each_of {J} {y} {i} {b} le same r =
          let q = head_parts r.3 in
          let o = head_once q.1 (head_along g (λ k l. same k (omega arith))) in
          let e : IsExpr J P rank_whole r.1 v r.2 = subst (λ k. IsExpr J P rank_whole r.1 k r.2) o.1 q.2 in
          moved (λ z k. EachRest J P d z v k) (r.4.3.0 ∙ ap (λ x. stmt.ForEach x r.1 r.4.0) o.0, r.4.3.1) (each_rest e r.4.2)

      of_each : {J : Stream} {y : Stmt} {i b : ℕ} → v ≤ i → Before i J K → EachRest J P d y v b → EachLoop P J y (at + 1 + 1) b
      of_each le same (each_rest e s) = (_, _, _, head_makes (head_along g (λ k l. same k (omega arith))) e, (_, _, s, (refl, refl)))

      pub for_each_ok : {y : Stmt} {n : ℕ} → Exact (Each P d) stops_body K v y n → Exact (Statement P) stops_stmt K at y n
      for_each_ok {y} {n} e = let lt = head_after g in let l = e.after in for_ok (alt_left (EachLoop P) (StepsLoop P) (no_steps e.after) (record {
        after = omega arith;
        inside = inside_both K (at + 1 + 1) v n (head_inside g) e.inside;
        spelled = λ J same so. of_each e.after same (e.spelled J same (stmt_body_stops _ so));
        only = λ J x b same r st. e.only J x b same (each_of e.after same r) (stmt_body_stops _ st);
      }))

      pub for_each_fails : {i : ℕ} → Refused (Each P d) stops_body K v i → Refused (Statement P) stops_stmt K at i
      for_each_fails {i} f = let lt = head_after g in let l = f.from in for_fails (alt_left_bad (EachLoop P) (StepsLoop P) (no_steps f.from) (record {
        from = omega arith;
        inside = inside_both K (at + 1 + 1) v i (head_inside g) f.inside;
        never = λ J x b same r st. f.never J x b same (each_of f.from same r) (stmt_body_stops _ st);
        viable = viable_more stmt_body_stops (λ J e same so v. (v.0, of_each f.from same v.1)) f.viable;
      }))

    -- with steps
    module _ (no : (d : Declared) (v : ℕ) → EachHead K P d (at + 1 + 1) v → ⊥) where
      no_each : {i : ℕ} → at + 1 + 1 ≤ i → (SeesType K (at + 1 + 1) → at + 1 + 1 + 1 ≤ i) → (SeesType K (at + 1 + 1) → is_name (K (at + 1 + 1 + 1)) ≡ true → at + 1 + 1 + 1 + 1 ≤ i) → NeverTo i (EachLoop P) stops_stmt K (at + 1 + 1)
      no_each {i} le far further J y b same r st = by_head (head_parts r.3).1
        where
          by_head : {d : Declared} {v : ℕ} → EachHead J P d (at + 1 + 1) v → ⊥
          by_head (each_head_plain n w) =
              let k = sym (same (at + 1 + 1) le) ∙ n in
              no _ _ (each_head_plain k (sym (same (at + 1 + 1 + 1) (far (type_name k))) ∙ w))
          by_head (each_head_typed t n w) =
              let u = type_along (sym (same (at + 1 + 1) le)) t in
              let k = sym (same (at + 1 + 1 + 1) (far u)) ∙ n in
              let third : K (at + 1 + 1 + 1 + 1) ≡ J (at + 1 + 1 + 1 + 1) = sym (same (at + 1 + 1 + 1 + 1) (further u (ap is_name k))) in
              no _ _ (each_head_typed u k (⊎_elim (λ z. inl (third ∙ z)) (λ z. inr (third ∙ z)) w))

      -- any type before a name begins steps
      steps_type : SeesType K (at + 1 + 1) → Continues (Steps P) K (at + 1 + 1) (at + 1 + 1) (kind.Name a_name ∷ kind.Sign sign.Assign ∷ kind.Int (pos 0) ∷ rest_tokens)
      steps_type t J same e st end = steps_from (type_along (same (at + 1 + 1) (le_refl _)) t) st.0 st.1.0 st.1.1.0 st.1.1.1

      steps_typed : SeesType K (at + 1 + 1) → is_name (K (at + 1 + 1 + 1)) ≡ true → Continues (Steps P) K (at + 1 + 1) (at + 1 + 1 + 1) (kind.Sign sign.Assign ∷ kind.Int (pos 0) ∷ rest_tokens)
      steps_typed t n J same e st end = steps_from (type_along (same (at + 1 + 1) (omega arith)) t) (same (at + 1 + 1 + 1) (le_refl _) ∙ (name_is (K (at + 1 + 1 + 1)) n).1) st.0 st.1.0 st.1.1

      loop_rule : IsRule (StepsLoop P) (Steps P)
      loop_rule = record { enter = steps_out; leave = steps_in }

      pub for_steps_ok : {y : Stmt} {n : ℕ} → Exact (Steps P) stops_body K (at + 1 + 1) y n → Exact (Statement P) stops_stmt K at y n
      for_steps_ok e = for_ok (alt_right (EachLoop P) (StepsLoop P)
          (no_each e.after (λ t. reaches (at + 1 + 1) (kind.Name a_name ∷ kind.Sign sign.Assign ∷ kind.Int (pos 0) ∷ rest_tokens) refl (steps_type t) e) (λ t n. reaches (at + 1 + 1 + 1) (kind.Sign sign.Assign ∷ kind.Int (pos 0) ∷ rest_tokens) refl (steps_typed t n) e))
          (rule_ok loop_rule (exact_less stmt_body_stops e)))

      pub for_steps_fails : {i : ℕ} → Refused (Steps P) stops_body K (at + 1 + 1) i → Refused (Statement P) stops_stmt K at i
      for_steps_fails f = for_fails (alt_right_bad (EachLoop P) (StepsLoop P)
          (no_each f.from (λ t. goes_past (at + 1 + 1) (kind.Name a_name ∷ kind.Sign sign.Assign ∷ kind.Int (pos 0) ∷ rest_tokens) refl (steps_type t) f) (λ t n. goes_past (at + 1 + 1 + 1) (kind.Sign sign.Assign ∷ kind.Int (pos 0) ∷ rest_tokens) refl (steps_typed t n) f))
          (rule_bad loop_rule (refused_less stmt_body_stops f)))
