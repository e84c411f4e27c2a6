-- A target is an expression of which the tree says what it writes to.
use Rattle.std.proofs.Common.{◌≡◌, ℕ, ◌+◌, Some, None, List, [], ◌∷◌, ◌++◌, refl, sym, ap, ◌∙◌, subst, append_assoc, append-nil}
use Rattle.model_syntax.specs.declared.tree.Access.{Access}
use Rattle.model_syntax.specs.declared.tree.Access.TheVariants.{Direct, NullSafe}
use Rattle.model_syntax.specs.declared.tree.Expr.{Expr, Expr-F, out-Expr, out-roll-Expr, roll-Expr}
use Rattle.model_syntax.specs.declared.tree.Expr.TheVariants as expr
use Rattle.model_syntax.specs.declared.tree.Arguments.{Arguments}
use Rattle.model_syntax.specs.declared.tree.Arm.{Arm}
use Rattle.model_syntax.specs.declared.tree.Catch.{Catch}
use Rattle.model_syntax.specs.declared.tree.Assignment.{Assignment}
use Rattle.model_syntax.specs.declared.tree.Choice.{Choice}
use Rattle.model_syntax.specs.declared.tree.Entry.{Entry}
use Rattle.model_syntax.specs.declared.tree.Part.{Part}
use Rattle.model_syntax.specs.declared.tree.Stmt.{Stmt}
use Rattle.model_syntax.specs.declared.tree.Operand.{Operand}
use Rattle.model_syntax.specs.declared.tree.Suffix.{Suffix, Suffix-F, out-Suffix, out-roll-Suffix}
use Rattle.model_syntax.specs.declared.tree.Suffix.TheVariants.{Property, Method, Index, rolls-Property, rolls-Method, rolls-Index}
use Rattle.model_syntax.specs.declared.tree.Target.{Target}
use Rattle.model_syntax.specs.declared.tree.Target.TheVariants.{ToName, ToProperty, ToIndex}
use Rattle.model_syntax.specs.Stream.{Stream, Places}
use Rattle.model_syntax.specs.Operators.{by_or, by_and, Rank, suffixed}
use Rattle.model_syntax.specs.Grammar.{IsExpr, whole, chain, pair_alone, pair, terms, unary, choices_none, choices_true, choices_set, chain_end, chain_more, terms_end, terms_more, prefixes_none, prefixes_more, dot, safe_dot, Suffixes, suffixes_none, suffixes_property, suffixes_method, suffixes_index, IsPrimary, primary_number, primary_text, primary_gstring, primary_true, primary_false, primary_null, primary_name, primary_call, primary_group, primary_no_list, primary_list, primary_no_map, primary_map, primary_closure, primary_new, primary_new_with, closure_headed, closure_plain, IsTarget, target_name, target_property, target_index}
use Rattle.groovy_expr.specs.Targets.{behind, last_target, target_in, target_of}

-- the layers of what matters here
pub out-Variable : (n : List ℕ) → out-Expr (expr.Variable n) ≡ Expr-F.Variable n
out-Variable n = ap out-Expr (sym (expr.rolls-Variable n)) ∙ out-roll-Expr (Expr-F.Variable n)

pub out-Suffixed : (e : Expr) (ss : List Suffix) → out-Expr (expr.Suffixed e ss) ≡ Expr-F.Suffixed e ss
out-Suffixed e ss = ap out-Expr (sym (expr.rolls-Suffixed e ss)) ∙ out-roll-Expr (Expr-F.Suffixed e ss)

pub out-Property : (d : Access) (n : List ℕ) → out-Suffix (Property d n) ≡ Suffix-F.Property d n
out-Property d n = ap out-Suffix (sym (rolls-Property d n)) ∙ out-roll-Suffix (Suffix-F.Property d n)

pub out-Method : (d : Access) (n : List ℕ) (args : Arguments) → out-Suffix (Method d n args) ≡ Suffix-F.Method d n args
out-Method d n args = ap out-Suffix (sym (rolls-Method d n args)) ∙ out-roll-Suffix (Suffix-F.Method d n args)

some_same : {A : Type 0} {x y : A} → Some x ≡ Some y → x ≡ y
some_same e = cc

pub out-Index : (e : Expr) → out-Suffix (Index e) ≡ Suffix-F.Index e
out-Index e = ap out-Suffix (sym (rolls-Index e)) ∙ out-roll-Suffix (Suffix-F.Index e)

-- suffixes behind suffixes
pub suffixes_append : {K : Stream} {P : Places} {ss ts : List Suffix} {a m b : ℕ} → Suffixes K P ss a m → Suffixes K P ts m b → Suffixes K P (ss ++ ts) a b
suffixes_append suffixes_none t = t
suffixes_append (suffixes_property d n ss) t = suffixes_property d n (suffixes_append ss t)
suffixes_append (suffixes_method d n c ss) t = suffixes_method d n c (suffixes_append ss t)
suffixes_append (suffixes_index o e c ss) t = suffixes_index o e c (suffixes_append ss t)

-- what the last of some suffixes writes to
pub last_is : (e : Expr) (done ss : List Suffix) (s : Suffix) → last_target e done (ss ++ s ∷ []) ≡ behind (suffixed e (done ++ ss)) (out-Suffix s)
last_is e done [] s = ap (λ d. behind (suffixed e d) (out-Suffix s)) (sym (append-nil done))
last_is e done (t ∷ []) s = refl
last_is e done (t ∷ u ∷ ss) s = last_is e (done ++ t ∷ []) (u ∷ ss) s ∙ ap (λ d. behind (suffixed e d) (out-Suffix s)) (append_assoc done (t ∷ []) (u ∷ ss))

pub suffixed_target : (e : Expr) (ss : List Suffix) (s : Suffix) → target_of (suffixed e (ss ++ s ∷ [])) ≡ behind (suffixed e ss) (out-Suffix s)
suffixed_target e [] s = ap target_in (out-Suffixed e (s ∷ []))
suffixed_target e (t ∷ ss) s = ap target_in (out-Suffixed e (t ∷ (ss ++ s ∷ []))) ∙ last_is e [] (t ∷ ss) s

-- the expression that a target is, and what it writes to
pub target_expr : {K : Stream} {P : Places} {t : Target} {a b : ℕ} → IsTarget K P t a b → (e : Expr) × (ss : List Suffix) × (m : ℕ) × IsPrimary K P e a m × Suffixes K P ss m b × (target_of (suffixed e ss) ≡ Some t)
target_expr (target_name {n = n} h) = (expr.Variable n, [], _, primary_name h, suffixes_none, ap target_in (out-Variable n))
target_expr (target_property {e = e} {ss = ss} {n = n} p s d h) =
    (e, ss ++ Property Direct n ∷ [], _, p, suffixes_append s (suffixes_property (dot d) h suffixes_none), suffixed_target e ss (Property Direct n) ∙ ap (behind (suffixed e ss)) (out-Property Direct n))
target_expr (target_index {e = e} {i = i} {ss = ss} p s o x c) =
    (e, ss ++ Index i ∷ [], _, p, suffixes_append s (suffixes_index o x c suffixes_none), suffixed_target e ss (Index i) ∙ ap (behind (suffixed e ss)) (out-Index i))

out-by : (e : Expr) (x : Expr-F Assignment Choice Entry Expr Part Stmt Suffix Target Arguments Arm Catch Operand) → roll-Expr x ≡ e → out-Expr e ≡ x
out-by e x r = ap out-Expr (sym r) ∙ out-roll-Expr x

-- any other expression writes to nothing
not_target : (e : Expr) {t : Target} (x : Expr-F Assignment Choice Entry Expr Part Stmt Suffix Target Arguments Arm Catch Operand) → roll-Expr x ≡ e → target_in x ≡ None → target_of e ≡ Some t → ⊥
not_target e {t} x r n h = let z : None ≡ Some t = sym n ∙ ap target_in (sym (out-by e x r)) ∙ h in cc

-- an expression that writes to something is a primary with suffixes
pub operand_of : {K : Stream} {P : Places} {r : Rank} {e : Expr} {t : Target} {a b : ℕ} → IsExpr K P r e a b → target_of e ≡ Some t → (p : Expr) × (ss : List Suffix) × (m : ℕ) × IsPrimary K P p a m × Suffixes K P ss m b × (e ≡ suffixed p ss)
operand_of (whole choices_none e) h = operand_of e h
operand_of (whole {e = e} (choices_true {cs = cs} u q v c r) x) h = absurd (not_target _ (Expr-F.Chosen _ e) (expr.rolls-Chosen _ e) refl h)
operand_of (whole {e = e} (choices_set {cs = cs} v q r) x) h = absurd (not_target _ (Expr-F.Chosen _ e) (expr.rolls-Chosen _ e) refl h)
operand_of (chain x chain_end) h = operand_of x h
operand_of (chain {l = by_or} x (chain_more s y r)) h = absurd (not_target _ (Expr-F.Or _) (expr.rolls-Or _) refl h)
operand_of (chain {l = by_and} x (chain_more s y r)) h = absurd (not_target _ (Expr-F.And _) (expr.rolls-And _) refl h)
operand_of (pair_alone x) h = operand_of x h
operand_of (pair {e = e} x s o y) h = absurd (not_target _ (Expr-F.Joined e _) (expr.rolls-Joined e _) refl h)
operand_of (terms x terms_end) h = operand_of x h
operand_of (terms {e = e} x (terms_more s o y r)) h = absurd (not_target _ (Expr-F.Joined e _) (expr.rolls-Joined e _) refl h)
operand_of (unary prefixes_none p s) h = (_, _, _, p, s, refl)
operand_of (unary (prefixes_more k q r) p s) h = absurd (not_target _ (Expr-F.Prefixed _ _) (expr.rolls-Prefixed _ _) refl h)

-- a primary alone writes to something only where it is a name
primary_target : {K : Stream} {P : Places} {e : Expr} {t : Target} {a b : ℕ} → IsPrimary K P e a b → target_of e ≡ Some t → IsTarget K P t a b
primary_target {K} {P} {e} {t} {a} {b} (primary_name {n = n} k) h =
    let z : Some (ToName n) ≡ Some t = sym (ap target_in (out-Variable n)) ∙ h in
    let o : ToName n ≡ t = some_same z in
    subst (λ u. IsTarget K P u a b) o (target_name k)
primary_target (primary_number {v = v} k) h = absurd (not_target _ (Expr-F.Number v) (expr.rolls-Number v) refl h)
primary_target (primary_text {t = x} k) h = absurd (not_target _ (Expr-F.Literal x) (expr.rolls-Literal x) refl h)
primary_target (primary_gstring {ps = ps} k) h = absurd (not_target _ (Expr-F.GString ps) (expr.rolls-GString ps) refl h)
primary_target (primary_true k) h = absurd (not_target _ Expr-F.True expr.rolls-True refl h)
primary_target (primary_false k) h = absurd (not_target _ Expr-F.False expr.rolls-False refl h)
primary_target (primary_null k) h = absurd (not_target _ Expr-F.Null expr.rolls-Null refl h)
primary_target (primary_call {n = n} {args = args} k c) h = absurd (not_target _ (Expr-F.Call n args) (expr.rolls-Call n args) refl h)
primary_target (primary_group {e = e} o x c) h = absurd (not_target _ (Expr-F.Group e) (expr.rolls-Group e) refl h)
primary_target (primary_no_list o c) h = absurd (not_target _ (Expr-F.List []) (expr.rolls-List []) refl h)
primary_target (primary_list {es = es} o x m c) h = absurd (not_target _ (Expr-F.List es) (expr.rolls-List es) refl h)
primary_target (primary_no_map o m c) h = absurd (not_target _ (Expr-F.Map []) (expr.rolls-Map []) refl h)
primary_target (primary_map {es = es} o x m c) h = absurd (not_target _ (Expr-F.Map es) (expr.rolls-Map es) refl h)
primary_target (primary_closure (closure_headed {ds = ds} {ss = ss} o g hs x c)) h = absurd (not_target _ (Expr-F.Closure (Some ds) ss) (expr.rolls-Closure (Some ds) ss) refl h)
primary_target (primary_closure (closure_plain {ss = ss} o g x c)) h = absurd (not_target _ (Expr-F.Closure None ss) (expr.rolls-Closure None ss) refl h)
primary_target (primary_new {c = c} w n o z) h = absurd (not_target _ (Expr-F.New c None) (expr.rolls-New c None) refl h)
primary_target (primary_new_with {c = c} {e = e} w n o x z) h = absurd (not_target _ (Expr-F.New c (Some e)) (expr.rolls-New c (Some e)) refl h)

-- the first of some suffixes, and the others
pub first_suffix : {K : Stream} {P : Places} {s : Suffix} {ss : List Suffix} {a b : ℕ} → Suffixes K P (s ∷ ss) a b → (m : ℕ) × Suffixes K P (s ∷ []) a m × Suffixes K P ss m b
first_suffix (suffixes_property d n r) = (_, suffixes_property d n suffixes_none, r)
first_suffix (suffixes_method d n c r) = (_, suffixes_method d n c suffixes_none, r)
first_suffix (suffixes_index o e c r) = (_, suffixes_index o e c suffixes_none, r)

no_suffixes : {K : Stream} {P : Places} {a b : ℕ} → Suffixes K P [] a b → b ≡ a
no_suffixes suffixes_none = refl

module _ {K : Stream} {P : Places} {p : Expr} {a n : ℕ} (i : IsPrimary K P p a n) where
  -- one suffix that writes to something
  one_target : {done : List Suffix} {s : Suffix} {t : Target} {m b : ℕ} → Suffixes K P done n m → Suffixes K P (s ∷ []) m b → behind (suffixed p done) (out-Suffix s) ≡ Some t → IsTarget K P t a b
  one_target {done} {s} {t} {m} {b} ds (suffixes_property {d = Direct} {n = x} (dot d) k suffixes_none) h =
      let z : Some (ToProperty (suffixed p done) x) ≡ Some t = sym (ap (behind (suffixed p done)) (out-Property Direct x)) ∙ h in
      subst (λ u. IsTarget K P u a b) (some_same z) (target_property i ds d k)
  one_target {done} {s} {t} {m} {b} ds (suffixes_property {d = NullSafe} {n = x} (safe_dot d) k suffixes_none) h =
      absurd (let z : None ≡ Some t = sym (ap (behind (suffixed p done)) (out-Property NullSafe x)) ∙ h in cc)
  one_target {done} {s} {t} {m} {b} ds (suffixes_method {d = d} {n = x} {args = args} dd k c suffixes_none) h =
      absurd (let z : None ≡ Some t = sym (ap (behind (suffixed p done)) (out-Method d x args)) ∙ h in cc)
  one_target {done} {s} {t} {m} {b} ds (suffixes_index {e = x} {m = l} o e c r) h =
      let z : Some (ToIndex (suffixed p done) x) ≡ Some t = sym (ap (behind (suffixed p done)) (out-Index x)) ∙ h in
      subst (λ k. IsTarget K P t a k) (sym (no_suffixes r)) (subst (λ u. IsTarget K P u a (l + 1)) (some_same z) (target_index i ds o e c))

  last_target_is : (ss done : List Suffix) {t : Target} {m b : ℕ} → Suffixes K P done n m → Suffixes K P ss m b → last_target p done ss ≡ Some t → IsTarget K P t a b
  last_target_is [] done {t} ds x h = absurd (let z : None ≡ Some t = h in cc)
  last_target_is (s ∷ []) done ds x h = one_target ds x h
  last_target_is (s ∷ u ∷ ss) done ds x h = let q = first_suffix x in last_target_is (u ∷ ss) (done ++ s ∷ []) (suffixes_append ds q.1) q.2 h

  -- a primary with suffixes that writes to something is a target
  pub suffixed_is : (ss : List Suffix) {t : Target} {b : ℕ} → Suffixes K P ss n b → target_of (suffixed p ss) ≡ Some t → IsTarget K P t a b
  suffixed_is [] {t} {b} suffixes_none h = primary_target i h
  suffixed_is (s ∷ ss) {t} x h = last_target_is (s ∷ ss) [] suffixes_none x (sym (ap target_in (out-Suffixed p (s ∷ ss))) ∙ h)

-- an expression that writes to something is a target
pub expr_target : {K : Stream} {P : Places} {r : Rank} {e : Expr} {t : Target} {a b : ℕ} → IsExpr K P r e a b → target_of e ≡ Some t → IsTarget K P t a b
expr_target {K} {P} {r} {e} {t} x h = let q = operand_of x h in suffixed_is q.3 q.1 q.4 (sym (ap target_of q.5) ∙ h)
