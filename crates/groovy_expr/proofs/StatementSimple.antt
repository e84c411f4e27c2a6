-- The rules of statements without a block of their own, for the calculus.
use Rattle.std.proofs.Common.{◌≡◌, ℕ, ◌+◌, ◌<◌, ◌≤◌, Bool, true, false, Option, Some, None, List, [], ◌∷◌, inl, inr, ⊎_elim, refl, sym, ap, ◌∙◌, subst, arith, le_refl, le_trans, pos}
use Rattle.std.proofs.lemmas.Bool.{false≢true}
use Rattle.model_syntax.specs.declared.place.Declared.{Declared}
use Rattle.model_syntax.specs.declared.sign.Sign.{Sign}
use Rattle.model_syntax.specs.declared.sign.Sign.TheVariants as sign
use Rattle.model_syntax.specs.declared.word.Word.TheVariants as word
use Rattle.model_syntax.specs.declared.token.TokenKind.{TokenKind}
use Rattle.model_syntax.specs.declared.token.TokenKind.TheVariants as kind
use Rattle.model_syntax.specs.declared.tree.AssignSign.{AssignSign}
use Rattle.model_syntax.specs.declared.tree.Assignment.{Assignment}
use Rattle.model_syntax.specs.declared.tree.Assignment.TheVariants as assignment
use Rattle.model_syntax.specs.declared.tree.Expr.{Expr}
use Rattle.model_syntax.specs.declared.tree.Expr.TheVariants as expr
use Rattle.model_syntax.specs.declared.tree.Stmt.{Stmt}
use Rattle.model_syntax.specs.declared.tree.Stmt.TheVariants as stmt
use Rattle.model_syntax.specs.declared.tree.Target.{Target}
use Rattle.model_syntax.specs.Stream.{Stream, Places, Sees, SeesWord, SeesName, declared}
use Rattle.model_syntax.specs.Lookahead.{is_name, is_assign, begins_argument}
use Rattle.model_syntax.specs.Operators.{rank_whole, assign_sign, suffixed}
use Rattle.model_syntax.specs.Grammar.{SeesType, type_def, type_name, IsExpr, primary_number, IsWhole, whole_expr, IsTarget, IsAssign, assign_value, assign_up, assign_down, IsSimple, simple_def, simple_declare, simple_assign, simple_evaluate, simple_return, simple_return_value, simple_break, simple_continue, simple_throw}
use Rattle.model_syntax.proofs.GrammarLemmas.{just, with_suffixes, begins_expr, whole_begins, assign_begins}
use Rattle.groovy_expr.specs.Answers.{Rule, Stops, Exact, Refused}
use Rattle.groovy_expr.specs.Stops.{stops_expr, stops_simple}
use Rattle.groovy_expr.specs.Targets.{target_of}
use Rattle.groovy_expr.specs.Updates.{IsUpdate, update_value, update_up, update_down, is_update}
use Rattle.groovy_expr.proofs.Calculus.{alike, Tok, Ret, Sub, Alt, Perhaps, Leads, leads_ret, Fill, Fills, fills_ret, fills_perhaps, viable_more, inside_none, inside_more, ret, tok_ok, tok_fails, sub_ok, sub_fails, sub_bad, NeverTo, alt_left, alt_right, alt_left_bad, alt_right_bad, moved}
use Rattle.groovy_expr.proofs.StatementCalculus.{Skip, Nam, NeverHere, never_tok, may_none, may_some, may_fails, inside_token, nothing, IsByKnown, by_ok, by_bad, by_bad_here, skip_ok, skip_fails, IsRule, rule_ok, rule_bad, nam_ok, nam_fails, nam_none}
use Rattle.groovy_expr.proofs.StatementLookahead.{name_expr}
use Rattle.groovy_expr.proofs.StatementTargets.{target_expr, expr_target}
use Rattle.groovy_expr.proofs.StatementWhole.{simple_expr, argument_stops, name_is, Expression, Whole, whole_expr_ok, whole_expr_fails, whole_typed}

abbrev pub Update : Places → Target → Rule Assignment
Update P t K = IsUpdate K P t

abbrev pub Assigning : Places → Rule Assignment
Assigning P K = IsAssign K P

abbrev pub Simple : Places → Rule Stmt
Simple P K = IsSimple K P

-- the shortest of some: the number 0
pub fill_expr : (P : Places) (s : Stops) → Fill (Expression P) s
fill_expr P s = record { tokens = kind.Int (pos 0) ∷ []; fills = λ J a e st so. (expr.Number (pos 0), subst (λ k. IsExpr J P rank_whole (expr.Number (pos 0)) a k) (sym st.1) (just (primary_number st.0))) }

pub fill_whole : (P : Places) → Fill (Whole P) stops_simple
fill_whole P = record { tokens = kind.Int (pos 0) ∷ []; fills = λ J a e st so. (expr.Number (pos 0), subst (λ k. IsWhole J P (expr.Number (pos 0)) a k) (sym st.1) (whole_expr (rw st.0 refl) (just (primary_number st.0)))) }

-- signs behind a target
pub value_sign : (s : Sign) (o : AssignSign) → assign_sign s ≡ Some o → is_update (Some (kind.Sign s)) ≡ true
value_sign sign.Assign o e = refl
value_sign sign.PlusAssign o e = refl
value_sign sign.MinusAssign o e = refl
value_sign sign.TimesAssign o e = refl
value_sign sign.ModAssign o e = refl
value_sign s o e = absurd (let z : None ≡ Some o = e in cc)

pub update_stops : (t : Option TokenKind) → is_update t ≡ true → stops_expr t ≡ true
update_stops (Some (kind.Sign sign.Assign)) e = refl
update_stops (Some (kind.Sign sign.PlusAssign)) e = refl
update_stops (Some (kind.Sign sign.MinusAssign)) e = refl
update_stops (Some (kind.Sign sign.TimesAssign)) e = refl
update_stops (Some (kind.Sign sign.ModAssign)) e = refl
update_stops (Some (kind.Sign sign.Increment)) e = refl
update_stops (Some (kind.Sign sign.Decrement)) e = refl
update_stops t e = absurd (false≢true e)

pub update_open : (t : Option TokenKind) → is_update t ≡ true → stops_simple t ≡ true → ⊥
update_open (Some (kind.Sign sign.Assign)) e f = false≢true f
update_open (Some (kind.Sign sign.PlusAssign)) e f = false≢true f
update_open (Some (kind.Sign sign.MinusAssign)) e f = false≢true f
update_open (Some (kind.Sign sign.TimesAssign)) e f = false≢true f
update_open (Some (kind.Sign sign.ModAssign)) e f = false≢true f
update_open (Some (kind.Sign sign.Increment)) e f = false≢true f
update_open (Some (kind.Sign sign.Decrement)) e f = false≢true f
update_open t e f = false≢true e

update_no_argument : (t : Option TokenKind) → is_update t ≡ true → begins_argument t ≡ true → ⊥
update_no_argument (Some (kind.Sign sign.Assign)) e f = false≢true f
update_no_argument (Some (kind.Sign sign.PlusAssign)) e f = false≢true f
update_no_argument (Some (kind.Sign sign.MinusAssign)) e f = false≢true f
update_no_argument (Some (kind.Sign sign.TimesAssign)) e f = false≢true f
update_no_argument (Some (kind.Sign sign.ModAssign)) e f = false≢true f
update_no_argument (Some (kind.Sign sign.Increment)) e f = false≢true f
update_no_argument (Some (kind.Sign sign.Decrement)) e f = false≢true f
update_no_argument t e f = false≢true e

pub update_begins : {J : Stream} {P : Places} {t : Target} {y : Assignment} {a b : ℕ} → IsUpdate J P t y a b → is_update (J a) ≡ true
update_begins (update_value {s = s} {o = o} k q e) = ap is_update k ∙ value_sign s o q
update_begins (update_up k) = ap is_update k
update_begins (update_down k) = ap is_update k

-- an update, by its sign
same_sign : (s t : Sign) → Some (kind.Sign s) ≡ Some (kind.Sign t) → s ≡ t
same_sign s t e = cc

value_is : {J : Stream} {P : Places} {t : Target} {y : Assignment} {a b : ℕ} {s : Sign} {o : AssignSign} → IsUpdate J P t y a b → Sees J a s → assign_sign s ≡ Some o → (e : Expr) × IsWhole J P e (a + 1) b × (y ≡ assignment.Write t o e)
value_is {J} {P} {t} {y} {a} {b} {s} {o} (update_value {s = s'} {o = o'} {e = e} k q i) h g =
    let z : s' ≡ s = same_sign s' s (sym k ∙ h) in
    let u : Some o' ≡ Some o = sym q ∙ ap assign_sign z ∙ g in
    let v : o' ≡ o = cc in
    (e, i, ap (λ x. assignment.Write t x e) v)
value_is {s = s} {o = o} (update_up k) h g = absurd (let z : None ≡ Some o = ap assign_sign (same_sign sign.Increment s (sym k ∙ h)) ∙ g in cc)
value_is {s = s} {o = o} (update_down k) h g = absurd (let z : None ≡ Some o = ap assign_sign (same_sign sign.Decrement s (sym k ∙ h)) ∙ g in cc)

up_is : {J : Stream} {P : Places} {t : Target} {y : Assignment} {a b : ℕ} → IsUpdate J P t y a b → Sees J a sign.Increment → (y ≡ assignment.Increment t) × (b ≡ a + 1)
up_is (update_up k) h = (refl, refl)
up_is (update_value {s = s} {o = o} k q i) h = absurd (let z : None ≡ Some o = ap assign_sign (same_sign sign.Increment s (sym h ∙ k)) ∙ q in cc)
up_is (update_down k) h = absurd cc

down_is : {J : Stream} {P : Places} {t : Target} {y : Assignment} {a b : ℕ} → IsUpdate J P t y a b → Sees J a sign.Decrement → (y ≡ assignment.Decrement t) × (b ≡ a + 1)
down_is (update_down k) h = (refl, refl)
down_is (update_value {s = s} {o = o} k q i) h = absurd (let z : None ≡ Some o = ap assign_sign (same_sign sign.Decrement s (sym h ∙ k)) ∙ q in cc)
down_is (update_up k) h = absurd cc

module _ (K : Stream) (P : Places) (t : Target) {at : ℕ} where
  module _ {s : Sign} {o : AssignSign} (h : Sees K at s) (g : assign_sign s ≡ Some o) where
    pub update_value_ok : {e : Expr} {m : ℕ} → Exact (Whole P) stops_simple K (at + 1) e m → Exact (Update P t) stops_simple K at (assignment.Write t o e) m
    update_value_ok {e} {m} x = let l = x.after in record {
      after = omega arith;
      inside = inside_more K (kind.Sign s) at m h x.inside;
      spelled = λ J same st. update_value (same at (omega arith) ∙ h) g (x.spelled J same st);
      only = λ J y b same r st.
          let q = value_is r (same at (omega arith) ∙ h) g in
          let w = x.only J q.0 b same q.1 st in
          (q.2 ∙ ap (assignment.Write t o) w.0, w.1);
    }

    pub update_value_fails : {i : ℕ} → Refused (Whole P) stops_simple K (at + 1) i → Refused (Update P t) stops_simple K at i
    update_value_fails {i} f = let l = f.from in record {
      from = omega arith;
      inside = inside_more K (kind.Sign s) at i h f.inside;
      never = λ J y b same r st. let q = value_is r (same at (omega arith) ∙ h) g in f.never J q.0 b same q.1 st;
      viable = viable_more (alike _) (λ J e same ok v. (assignment.Write t o v.0, update_value (same at (omega arith) ∙ h) g v.1)) f.viable;
    }

  pub update_up_ok : Sees K at sign.Increment → Exact (Update P t) stops_simple K at (assignment.Increment t) (at + 1)
  update_up_ok h = record {
    after = omega arith;
    inside = inside_token K (kind.Sign sign.Increment) at h;
    spelled = λ J same st. update_up (same at (omega arith) ∙ h);
    only = λ J y b same r st. up_is r (same at (omega arith) ∙ h);
  }

  pub update_down_ok : Sees K at sign.Decrement → Exact (Update P t) stops_simple K at (assignment.Decrement t) (at + 1)
  update_down_ok h = record {
    after = omega arith;
    inside = inside_token K (kind.Sign sign.Decrement) at h;
    spelled = λ J same st. update_down (same at (omega arith) ∙ h);
    only = λ J y b same r st. down_is r (same at (omega arith) ∙ h);
  }

  pub update_none : is_update (K at) ≡ false → Refused (Update P t) stops_simple K at at
  update_none h = record {
    from = omega arith;
    inside = inside_none K at;
    never = λ J y b same r st. false≢true (sym h ∙ ap is_update (sym (same at (omega arith))) ∙ update_begins r);
    viable = record { closing = kind.Sign sign.Increment ∷ []; closes = λ J e same st ok. (assignment.Increment t, subst (λ z. IsUpdate J P t (assignment.Increment t) at z) (sym st.1) (update_up st.0)) };
  }

-- behind an expression: an update of what it writes to
abbrev pub AssignEnd : Places → Expr → Rule Assignment
AssignEnd P e J y a b = (t : Target) × (target_of e ≡ Some t) × IsUpdate J P t y a b

-- an assignment is an expression that writes to something, and an update of that
pub assign_in : {P : Places} {J : Stream} {y : Assignment} {a b : ℕ} → IsAssign J P y a b → Sub (Expression P) (AssignEnd P) J y a b
assign_in (assign_value t s o e) = let q = target_expr t in (suffixed q.0 q.1, _, with_suffixes q.3 q.4, (_, q.5, update_value s o e))
assign_in (assign_up t s) = let q = target_expr t in (suffixed q.0 q.1, _, with_suffixes q.3 q.4, (_, q.5, update_up s))
assign_in (assign_down t s) = let q = target_expr t in (suffixed q.0 q.1, _, with_suffixes q.3 q.4, (_, q.5, update_down s))

pub update_out : {P : Places} {J : Stream} {t : Target} {y : Assignment} {a m b : ℕ} → IsTarget J P t a m → IsUpdate J P t y m b → IsAssign J P y a b
update_out t (update_value s o e) = assign_value t s o e
update_out t (update_up s) = assign_up t s
update_out t (update_down s) = assign_down t s

assign_out : {P : Places} {J : Stream} {y : Assignment} {a b : ℕ} → Sub (Expression P) (AssignEnd P) J y a b → IsAssign J P y a b
assign_out r = update_out (expr_target r.2 r.3.1) r.3.2

pub assign_rule : (P : Places) → IsRule (Assigning P) (Sub (Expression P) (AssignEnd P))
assign_rule P = record { enter = assign_in; leave = assign_out }

pub assign_leads : (P : Places) → Leads (AssignEnd P) stops_expr stops_simple
assign_leads P e J y a b r st = update_stops (J a) (update_begins r.2)

-- no assignment begins with a name and an argument
pub assign_second : {P : Places} {J : Stream} {y : Assignment} {a b : ℕ} → IsAssign J P y a b → is_name (J a) ≡ true → begins_argument (J (a + 1)) ≡ true → ⊥
assign_second {P} {J} {y} {a} r n g =
    let q = assign_in r in
    let o = name_expr q.2 (name_is (J a) n).1 (argument_stops (J (a + 1)) g) in
    update_no_argument (J (a + 1)) (ap (λ k. is_update (J k)) (sym o.1) ∙ update_begins q.3.2) g

-- what is read behind an expression that writes to something
some_same : {a b : Target} → Some a ≡ Some b → a ≡ b
some_same e = cc

module _ (K : Stream) (P : Places) (x : Expr) {m : ℕ} {t : Target} (h : target_of x ≡ Some t) where
  pub end_ok : {y : Assignment} {n : ℕ} → Exact (Update P t) stops_simple K m y n → Exact (AssignEnd P x) stops_simple K m y n
  end_ok d = record {
    after = d.after;
    inside = d.inside;
    spelled = λ J same st. (t, h, d.spelled J same st);
    only = λ J y b same r st. d.only J y b same (subst (λ z. IsUpdate J P z y m b) (some_same (sym r.1 ∙ h)) r.2) st;
  }

  pub end_fails : {i : ℕ} → Refused (Update P t) stops_simple K m i → Refused (AssignEnd P x) stops_simple K m i
  end_fails f = record {
    from = f.from;
    inside = f.inside;
    never = λ J y b same r st. f.never J y b same (subst (λ z. IsUpdate J P z y m b) (some_same (sym r.1 ∙ h)) r.2) st;
    viable = viable_more (alike _) (λ J e same ok v. (v.0, (t, h, v.1))) f.viable;
  }

-- what a statement is that begins with an expression
abbrev pub Evaluated : Places → Rule Stmt
Evaluated P = Sub (Whole P) (λ e. Ret (stmt.Evaluate e))

abbrev pub Assigned : Places → Rule Stmt
Assigned P = Sub (Assigning P) (λ u. Ret (stmt.Assign u))

abbrev pub Evaluation : Places → Rule Stmt
Evaluation P = Alt (Evaluated P) (Assigned P)

pub whole_leads : (f : Expr → Stmt) → Leads (λ e. Ret (f e)) stops_simple stops_simple
whole_leads f = leads_ret stops_simple stops_simple f (alike _)

pub assigned_leads : Leads (λ u. Ret (stmt.Assign u)) stops_simple stops_simple
assigned_leads = leads_ret stops_simple stops_simple stmt.Assign (alike _)

pub expr_leads : (f : Expr → Stmt) → Leads (λ e. Ret (f e)) stops_expr stops_simple
expr_leads f = leads_ret stops_expr stops_simple f simple_expr

module _ (K : Stream) (P : Places) {at : ℕ} where
  -- an expression, and what may make it an assignment
  module _ (plain : is_name (K at) ≡ true → begins_argument (K (at + 1)) ≡ true → ⊥) where
    pub evaluation_fails : {i : ℕ} → Refused (Expression P) stops_expr K at i → Refused (Evaluation P) stops_simple K at i
    evaluation_fails f = alt_left_bad (Evaluated P) (Assigned P)
        (λ J y b same r st. let q = assign_in r.2 in f.never J q.0 q.1 same q.2 (assign_leads P q.0 J r.0 q.1 r.1 q.3 (assigned_leads r.0 J y r.1 b r.3 st)))
        (sub_fails K (whole_leads stmt.Evaluate) (fills_ret stmt.Evaluate (alike _)) (whole_expr_fails K P plain f))

    module _ {x : Expr} {m : ℕ} (e : Exact (Expression P) stops_expr K at x m) where
      pub evaluation_ok : is_update (K m) ≡ false → Exact (Evaluation P) stops_simple K at (stmt.Evaluate x) m
      evaluation_ok u = alt_left (Evaluated P) (Assigned P)
          (λ J y b same r st.
          let q = assign_in r.2 in
          let o = e.only J q.0 q.1 same q.2 (assign_leads P q.0 J r.0 q.1 r.1 q.3 (assigned_leads r.0 J y r.1 b r.3 st)) in
          false≢true (sym u ∙ sym (ap is_update (same m (le_refl m))) ∙ ap (λ k. is_update (J k)) (sym o.1) ∙ update_begins q.3.2))
          (sub_ok K (whole_leads stmt.Evaluate) (whole_expr_ok K P plain e) (ret stops_simple K _ _))

      module _ (u : is_update (K m) ≡ true) where
        no_evaluation : {i : ℕ} → m ≤ i → NeverTo i (Evaluated P) stops_simple K at
        no_evaluation {i} le J y b same r st =
            let w = whole_expr_ok K P plain e in
            let o = w.only J r.0 r.1 (λ k l. same k (le_trans l le)) r.2 (whole_leads stmt.Evaluate r.0 J y r.1 b r.3 st) in
            update_open (J m) (ap is_update (same m le) ∙ u) (ap (λ k. stops_simple (J k)) (sym (r.3.1 ∙ o.1)) ∙ st)

        pub evaluation_assign_ok : {t : Target} {y : Assignment} {n : ℕ} → target_of x ≡ Some t → Exact (Update P t) stops_simple K m y n → Exact (Evaluation P) stops_simple K at (stmt.Assign y) n
        evaluation_assign_ok h d = alt_right (Evaluated P) (Assigned P) (no_evaluation d.after) (sub_ok K assigned_leads (rule_ok (assign_rule P) (sub_ok K (assign_leads P) e (end_ok K P x h d))) (ret stops_simple K _ _))

        pub evaluation_assign_fails : {t : Target} {i : ℕ} → target_of x ≡ Some t → Refused (Update P t) stops_simple K m i → Refused (Evaluation P) stops_simple K at i
        evaluation_assign_fails h f = alt_right_bad (Evaluated P) (Assigned P) (no_evaluation f.from) (sub_fails K assigned_leads (fills_ret stmt.Assign (alike _)) (rule_bad (assign_rule P) (sub_bad K (assign_leads P) e (end_fails K P x h f))))

        pub evaluation_no_target : target_of x ≡ None → Refused (Evaluation P) stops_simple K at m
        evaluation_no_target h = record {
          from = e.after;
          inside = e.inside;
          never = λ J y b same r st. ⊎_elim (λ z. no_evaluation (le_refl m) J y b same z st)
              (λ z.
              let q = assign_in z.2 in
              let o = e.only J q.0 q.1 same q.2 (assign_leads P q.0 J z.0 q.1 z.1 q.3 (assigned_leads z.0 J y z.1 b z.3 st)) in
              no_some (sym h ∙ ap target_of (sym o.0) ∙ q.3.1)) r;
          viable = record {
            closing = [];
            closes = λ J k same st ok.
                let w = (whole_expr_ok K P plain e).spelled J same (ap (λ z. stops_simple (J z)) (sym st) ∙ ok) in
                (stmt.Evaluate x, inl (x, m, w, (refl, st)));
          };
        }
          where
            no_some : {t : Target} → None ≡ Some t → ⊥
            no_some z = cc

-- the declaration of a name with a value
abbrev pub Declares : Places → Declared → Rule Stmt
Declares P d = Sub (Whole P) (λ e. Ret (stmt.Declare d (Some e)))

abbrev pub MayDeclare : Places → Declared → Rule Stmt
MayDeclare P d = Perhaps (stmt.Declare d None) (Tok (kind.Sign sign.Assign) (Declares P d))

abbrev pub Typed : Places → Rule Stmt
Typed P = Skip (Nam P (λ d. Tok (kind.Sign sign.Assign) (Declares P d)))

abbrev pub ReturnsValue : Places → Rule Stmt
ReturnsValue P = Sub (Whole P) (λ e. Ret (stmt.Return (Some e)))

abbrev pub Throws : Places → Rule Stmt
Throws P = Sub (Expression P) (λ e. Ret (stmt.Throw e))

-- a statement by its first token
abbrev pub SimpleBy : Places → Option TokenKind → Rule Stmt
SimpleBy P (Some (kind.Word word.Def)) = Skip (Nam P (MayDeclare P))
SimpleBy P (Some (kind.Word word.Return)) = Skip (Perhaps (stmt.Return None) (ReturnsValue P))
SimpleBy P (Some (kind.Word word.Break)) = λ J y a b. (y ≡ stmt.Break (P a)) × (b ≡ a + 1)
SimpleBy P (Some (kind.Word word.Continue)) = λ J y a b. (y ≡ stmt.Continue (P a)) × (b ≡ a + 1)
SimpleBy P (Some (kind.Word word.Throw)) = Skip (Throws P)
SimpleBy P (Some (kind.Sign sign.BraceOpen)) = λ J y a b. ⊥
SimpleBy P (Some (kind.Name n)) = Alt (Typed P) (Evaluation P)
SimpleBy P k = Evaluation P

evaluation_by : (P : Places) (k : Option TokenKind) {J : Stream} {y : Stmt} {a b : ℕ} → begins_expr k ≡ true → (k ≡ Some (kind.Sign sign.BraceOpen) → ⊥) → Evaluation P J y a b → SimpleBy P k J y a b
evaluation_by P (Some (kind.Word word.Def)) g n r = absurd (false≢true g)
evaluation_by P (Some (kind.Word word.Return)) g n r = absurd (false≢true g)
evaluation_by P (Some (kind.Word word.Break)) g n r = absurd (false≢true g)
evaluation_by P (Some (kind.Word word.Continue)) g n r = absurd (false≢true g)
evaluation_by P (Some (kind.Word word.Throw)) g n r = absurd (false≢true g)
evaluation_by P (Some (kind.Sign sign.BraceOpen)) g n r = absurd (n refl)
evaluation_by P (Some (kind.Name m)) g n r = inr r
evaluation_by P k g n r = r

simple_enter : {P : Places} {J : Stream} {y : Stmt} {a b : ℕ} → IsSimple J P y a b → SimpleBy P (J a) J y a b
simple_enter (simple_def w n) = rw w (_, n, inl (refl, refl))
simple_enter (simple_declare (type_def w) n s e) = rw w (_, n, inr (s, (_, _, e, (refl, refl))))
simple_enter (simple_declare (type_name w) n s e) = rw w (inl (_, n, (s, (_, _, e, (refl, refl)))))
simple_enter {P} {J} {y} {a} (simple_assign n r) = evaluation_by P (J a) (assign_begins r) n (inr (_, _, r, (refl, refl)))
simple_enter {P} {J} {y} {a} (simple_evaluate n r) = evaluation_by P (J a) (whole_begins r) n (inl (_, _, r, (refl, refl)))
simple_enter (simple_return w) = rw w (inl (refl, refl))
simple_enter (simple_return_value w r) = rw w (inr (_, _, r, (refl, refl)))
simple_enter (simple_break w) = rw w (refl, refl)
simple_enter (simple_continue w) = rw w (refl, refl)
simple_enter (simple_throw w r) = rw w (_, _, r, (refl, refl))

module _ {P : Places} {J : Stream} {y : Stmt} {a b : ℕ} where
  evaluation_leave : (Sees J a sign.BraceOpen → ⊥) → Evaluation P J y a b → IsSimple J P y a b
  evaluation_leave n r = ⊎_elim (λ z. moved (λ x k. IsSimple J P x a k) z.3 (simple_evaluate n z.2)) (λ z. moved (λ x k. IsSimple J P x a k) z.3 (simple_assign n z.2)) r

  declare_leave : (n : List ℕ) → SeesType J a → SeesName J (a + 1) n → Tok (kind.Sign sign.Assign) (Declares P (declared n (P (a + 1)))) J y (a + 1 + 1) b → IsSimple J P y a b
  declare_leave n t h r = moved (λ x k. IsSimple J P x a k) r.1.3 (simple_declare t h r.0 r.1.2)

  simple_leave : (k : Option TokenKind) → J a ≡ k → SimpleBy P k J y a b → IsSimple J P y a b
  simple_leave (Some (kind.Word word.Def)) h r = ⊎_elim (λ z. moved (λ x k. IsSimple J P x a k) z (simple_def h r.1)) (λ z. declare_leave r.0 (type_def h) r.1 z) r.2
  simple_leave (Some (kind.Word word.Return)) h r = ⊎_elim (λ z. moved (λ x k. IsSimple J P x a k) z (simple_return h)) (λ z. moved (λ x k. IsSimple J P x a k) z.3 (simple_return_value h z.2)) r
  simple_leave (Some (kind.Word word.Break)) h r = moved (λ x k. IsSimple J P x a k) r (simple_break h)
  simple_leave (Some (kind.Word word.Continue)) h r = moved (λ x k. IsSimple J P x a k) r (simple_continue h)
  simple_leave (Some (kind.Word word.Throw)) h r = moved (λ x k. IsSimple J P x a k) r.3 (simple_throw h r.2)
  simple_leave (Some (kind.Sign sign.BraceOpen)) h r = absurd r
  simple_leave (Some (kind.Name n)) h r = ⊎_elim (λ z. declare_leave z.0 (type_name h) z.1 z.2) (λ z. evaluation_leave (λ e. let c : Some (kind.Name n) ≡ Some (kind.Sign sign.BraceOpen) = sym h ∙ e in cc) z) r
  simple_leave k h r = evaluation_leave (λ e. let c : k ≡ Some (kind.Sign sign.BraceOpen) = sym h ∙ e in cc) r

pub simple_by : (P : Places) → IsByKnown (Simple P) (SimpleBy P)
simple_by P = record { enter = simple_enter; leave = simple_leave }

pub fill_simple : (P : Places) → Fill (Simple P) stops_simple
unfolding fill_whole
fill_simple P = record {
  tokens = kind.Int (pos 0) ∷ [];
  fills = λ J a e st so. let v = (fill_whole P).fills J a e st so in (stmt.Evaluate v.0, simple_evaluate (λ z. let c : Some (kind.Int (pos 0)) ≡ Some (kind.Sign sign.BraceOpen) = sym st.0 ∙ z in cc) v.1);
}

-- no expression begins with what may follow a statement
pub simple_no_expr : (t : Option TokenKind) → stops_simple t ≡ true → begins_expr t ≡ true → ⊥
simple_no_expr (Some kind.Newline) e f = false≢true f
simple_no_expr (Some (kind.Sign sign.Semicolon)) e f = false≢true f
simple_no_expr (Some (kind.Sign sign.BraceClose)) e f = false≢true f
simple_no_expr (Some (kind.Sign sign.ParenClose)) e f = false≢true f
simple_no_expr (Some (kind.Word word.Else)) e f = false≢true f
simple_no_expr None e f = false≢true f
simple_no_expr t e f = false≢true e

may_declare_fills : (P : Places) → Fills (MayDeclare P) stops_simple stops_simple
may_declare_fills P = fills_perhaps (λ d. stmt.Declare d None) (λ d. Tok (kind.Sign sign.Assign) (Declares P d)) (alike _)

module _ (K : Stream) (P : Places) {at : ℕ} where
  -- `def`
  module _ (h : SeesWord K at word.Def) where
    pub def_no_name : ((n : List ℕ) → SeesName K (at + 1) n → ⊥) → Refused (Simple P) stops_simple K at (at + 1)
    def_no_name f = by_bad (simple_by P) _ h (omega arith) (skip_fails h (nam_none stops_simple K P (MayDeclare P) (may_declare_fills P) f))

    module _ {n : List ℕ} (g : SeesName K (at + 1) n) where
      pub def_alone : (Sees K (at + 1 + 1) sign.Assign → ⊥) → Exact (Simple P) stops_simple K at (stmt.Declare (declared n (P (at + 1))) None) (at + 1 + 1)
      def_alone f = by_ok (simple_by P) _ h (omega arith) (skip_ok h (nam_ok stops_simple K P (MayDeclare P) g (may_none stops_simple K (Tok (kind.Sign sign.Assign) (Declares P (declared n (P (at + 1))))) (stmt.Declare (declared n (P (at + 1))) None) (never_tok (Declares P (declared n (P (at + 1)))) stops_simple K f))))

      module _ (s : Sees K (at + 1 + 1) sign.Assign) where
        pub def_ok : {e : Expr} {m : ℕ} → Exact (Whole P) stops_simple K (at + 1 + 1 + 1) e m → Exact (Simple P) stops_simple K at (stmt.Declare (declared n (P (at + 1))) (Some e)) m
        def_ok x = let l = x.after in
            by_ok (simple_by P) _ h (omega arith) (skip_ok h (nam_ok stops_simple K P (MayDeclare P) g (may_some stops_simple K (Tok (kind.Sign sign.Assign) (Declares P (declared n (P (at + 1))))) (stmt.Declare (declared n (P (at + 1))) None) (ap stops_simple s) (tok_ok stops_simple K s (sub_ok K (whole_leads (λ e. stmt.Declare (declared n (P (at + 1))) (Some e))) x (ret stops_simple K _ _))))))

        pub def_fails : {i : ℕ} → Refused (Whole P) stops_simple K (at + 1 + 1 + 1) i → Refused (Simple P) stops_simple K at i
        def_fails f = let l = f.from in
            by_bad (simple_by P) _ h (omega arith) (skip_fails h (nam_fails stops_simple K P (MayDeclare P) g (may_fails stops_simple K (Tok (kind.Sign sign.Assign) (Declares P (declared n (P (at + 1))))) (stmt.Declare (declared n (P (at + 1))) None) (ap stops_simple s) (tok_fails stops_simple K s (sub_fails K (whole_leads (λ e. stmt.Declare (declared n (P (at + 1))) (Some e))) (fills_ret (λ e. stmt.Declare (declared n (P (at + 1))) (Some e)) (alike _)) f)))))

  -- a type, a name and `=`
  module _ {t n : List ℕ} (h : SeesName K at t) (g : SeesName K (at + 1) n) (s : Sees K (at + 1 + 1) sign.Assign) where
    no_evaluation_here : {i : ℕ} → at + 1 + 1 ≤ i → NeverTo i (Evaluation P) stops_simple K at
    no_evaluation_here le J y b same r st = ⊎_elim
        (λ z. (whole_typed K P h g s).never J z.0 z.1 (λ k l. same k (le_trans l le)) z.2 (whole_leads stmt.Evaluate z.0 J y z.1 b z.3 st))
        (λ z. assign_second z.2 (ap is_name (same at (omega arith) ∙ h)) (ap begins_argument (same (at + 1) (omega arith) ∙ g)))
        r

    pub typed_ok : {e : Expr} {m : ℕ} → Exact (Whole P) stops_simple K (at + 1 + 1 + 1) e m → Exact (Simple P) stops_simple K at (stmt.Declare (declared n (P (at + 1))) (Some e)) m
    typed_ok x = let l = x.after in
        by_ok (simple_by P) _ h (omega arith) (alt_left (Typed P) (Evaluation P) (no_evaluation_here (omega arith)) (skip_ok h (nam_ok stops_simple K P (λ d. Tok (kind.Sign sign.Assign) (Declares P d)) g (tok_ok stops_simple K s (sub_ok K (whole_leads (λ e. stmt.Declare (declared n (P (at + 1))) (Some e))) x (ret stops_simple K _ _))))))

    pub typed_fails : {i : ℕ} → Refused (Whole P) stops_simple K (at + 1 + 1 + 1) i → Refused (Simple P) stops_simple K at i
    typed_fails f = let l = f.from in
        by_bad (simple_by P) _ h (omega arith) (alt_left_bad (Typed P) (Evaluation P) (no_evaluation_here (omega arith)) (skip_fails h (nam_fails stops_simple K P (λ d. Tok (kind.Sign sign.Assign) (Declares P d)) g (tok_fails stops_simple K s (sub_fails K (whole_leads (λ e. stmt.Declare (declared n (P (at + 1))) (Some e))) (fills_ret (λ e. stmt.Declare (declared n (P (at + 1))) (Some e)) (alike _)) f)))))

  -- `return`
  module _ (h : SeesWord K at word.Return) where
    no_value : stops_simple (K (at + 1)) ≡ true → NeverHere (ReturnsValue P) stops_simple K (at + 1)
    no_value s J y b e r st = simple_no_expr (K (at + 1)) s (ap begins_expr (sym e) ∙ whole_begins r.2)

    pub return_alone : stops_simple (K (at + 1)) ≡ true → Exact (Simple P) stops_simple K at (stmt.Return None) (at + 1)
    return_alone s = by_ok (simple_by P) _ h (omega arith) (skip_ok h (may_none stops_simple K (ReturnsValue P) (stmt.Return None) (no_value s)))

    module _ (s : stops_simple (K (at + 1)) ≡ false) where
      pub return_ok : {e : Expr} {m : ℕ} → Exact (Whole P) stops_simple K (at + 1) e m → Exact (Simple P) stops_simple K at (stmt.Return (Some e)) m
      return_ok x = let l = x.after in
          by_ok (simple_by P) _ h (omega arith) (skip_ok h (may_some stops_simple K (ReturnsValue P) (stmt.Return None) s (sub_ok K (whole_leads (λ e. stmt.Return (Some e))) x (ret stops_simple K _ _))))

      pub return_fails : {i : ℕ} → Refused (Whole P) stops_simple K (at + 1) i → Refused (Simple P) stops_simple K at i
      return_fails f = let l = f.from in
          by_bad (simple_by P) _ h (omega arith) (skip_fails h (may_fails stops_simple K (ReturnsValue P) (stmt.Return None) s (sub_fails K (whole_leads (λ e. stmt.Return (Some e))) (fills_ret (λ e. stmt.Return (Some e)) (alike _)) f)))

  pub break_ok : SeesWord K at word.Break → Exact (Simple P) stops_simple K at (stmt.Break (P at)) (at + 1)
  break_ok h = by_ok (simple_by P) _ h (omega arith) (record { after = omega arith; inside = inside_token K _ at h; spelled = λ J same st. (refl, refl); only = λ J y b same r st. r })

  pub continue_ok : SeesWord K at word.Continue → Exact (Simple P) stops_simple K at (stmt.Continue (P at)) (at + 1)
  continue_ok h = by_ok (simple_by P) _ h (omega arith) (record { after = omega arith; inside = inside_token K _ at h; spelled = λ J same st. (refl, refl); only = λ J y b same r st. r })

  -- `throw`
  module _ (h : SeesWord K at word.Throw) where
    pub throw_ok : {e : Expr} {m : ℕ} → Exact (Expression P) stops_expr K (at + 1) e m → Exact (Simple P) stops_simple K at (stmt.Throw e) m
    throw_ok x = let l = x.after in by_ok (simple_by P) _ h (omega arith) (skip_ok h (sub_ok K (expr_leads stmt.Throw) x (ret stops_simple K _ _)))

    pub throw_fails : {i : ℕ} → Refused (Expression P) stops_expr K (at + 1) i → Refused (Simple P) stops_simple K at i
    throw_fails f = let l = f.from in by_bad (simple_by P) _ h (omega arith) (skip_fails h (sub_fails K (expr_leads stmt.Throw) (fills_ret stmt.Throw simple_expr) f))

  -- no statement begins with `{`
  pub simple_brace : Sees K at sign.BraceOpen → Refused (Simple P) stops_simple K at at
  simple_brace h = nothing (fill_simple P) (λ J y b e r st. subst (λ k. SimpleBy P k J y at b) (e ∙ h) (simple_enter r))

  -- a name, and no type with a name and `=`
  module _ {t : List ℕ} (h : SeesName K at t) (no : is_name (K (at + 1)) ≡ true → is_assign (K (at + 1 + 1)) ≡ true → ⊥) where
    no_typed : {i : ℕ} → at + 1 ≤ i → (is_name (K (at + 1)) ≡ true → at + 1 + 1 ≤ i) → NeverTo i (Typed P) stops_simple K at
    no_typed le far J y b same r st =
        let n : is_name (K (at + 1)) ≡ true = ap is_name (sym (same (at + 1) le) ∙ r.1) in
        no n (ap is_assign (sym (same (at + 1 + 1) (far n)) ∙ r.2.0))

    pub name_ok : {y : Stmt} {m : ℕ} → at + 1 ≤ m → (is_name (K (at + 1)) ≡ true → at + 1 + 1 ≤ m) → Exact (Evaluation P) stops_simple K at y m → Exact (Simple P) stops_simple K at y m
    name_ok le far e = by_ok (simple_by P) _ h (omega arith) (alt_right (Typed P) (Evaluation P) (no_typed le far) e)

    pub name_fails : {i : ℕ} → at + 1 ≤ i → (is_name (K (at + 1)) ≡ true → at + 1 + 1 ≤ i) → Refused (Evaluation P) stops_simple K at i → Refused (Simple P) stops_simple K at i
    name_fails le far f = by_bad (simple_by P) _ h (omega arith) (alt_right_bad (Typed P) (Evaluation P) (no_typed le far) f)

-- a statement that begins so is an expression, or an assignment
abbrev pub is_other : Option TokenKind → Bool
is_other (Some (kind.Word word.Def)) = false
is_other (Some (kind.Word word.Return)) = false
is_other (Some (kind.Word word.Break)) = false
is_other (Some (kind.Word word.Continue)) = false
is_other (Some (kind.Word word.Throw)) = false
is_other (Some (kind.Sign sign.BraceOpen)) = false
is_other (Some (kind.Name n)) = false
is_other k = true

other_is : (P : Places) (k : Option TokenKind) → is_other k ≡ true → {K : Stream} {at : ℕ} {y : Stmt} {m : ℕ} → Exact (Evaluation P) stops_simple K at y m → Exact (SimpleBy P k) stops_simple K at y m
other_is P (Some (kind.Word word.Def)) o e = absurd (false≢true o)
other_is P (Some (kind.Word word.Return)) o e = absurd (false≢true o)
other_is P (Some (kind.Word word.Break)) o e = absurd (false≢true o)
other_is P (Some (kind.Word word.Continue)) o e = absurd (false≢true o)
other_is P (Some (kind.Word word.Throw)) o e = absurd (false≢true o)
other_is P (Some (kind.Sign sign.BraceOpen)) o e = absurd (false≢true o)
other_is P (Some (kind.Name n)) o e = absurd (false≢true o)
other_is P k o e = e

other_fails_is : (P : Places) (k : Option TokenKind) → is_other k ≡ true → {K : Stream} {at i : ℕ} → Refused (Evaluation P) stops_simple K at i → Refused (SimpleBy P k) stops_simple K at i
other_fails_is P (Some (kind.Word word.Def)) o e = absurd (false≢true o)
other_fails_is P (Some (kind.Word word.Return)) o e = absurd (false≢true o)
other_fails_is P (Some (kind.Word word.Break)) o e = absurd (false≢true o)
other_fails_is P (Some (kind.Word word.Continue)) o e = absurd (false≢true o)
other_fails_is P (Some (kind.Word word.Throw)) o e = absurd (false≢true o)
other_fails_is P (Some (kind.Sign sign.BraceOpen)) o e = absurd (false≢true o)
other_fails_is P (Some (kind.Name n)) o e = absurd (false≢true o)
other_fails_is P k o e = e

module _ (K : Stream) (P : Places) {at : ℕ} (o : is_other (K at) ≡ true) where
  pub other_ok : {y : Stmt} {m : ℕ} → at < m → Exact (Evaluation P) stops_simple K at y m → Exact (Simple P) stops_simple K at y m
  other_ok lt e = by_ok (simple_by P) (K at) refl lt (other_is P (K at) o e)

  pub other_fails : {i : ℕ} → Refused (Evaluation P) stops_simple K at i → Refused (Simple P) stops_simple K at i
  other_fails f = by_bad_here (simple_by P) (K at) refl (fill_simple P) (other_fails_is P (K at) o f)
