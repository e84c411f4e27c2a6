-- Assignments and other parts of for heads, for the calculus.
use Rattle.std.proofs.Common.{◌≡◌, ℕ, ◌<◌, ◌≤◌, true, false, Option, Some, None, List, [], ◌∷◌, ◌++◌, refl, sym, ap, ◌∙◌, subst, arith, le_refl, append_assoc, append-nil}
use Rattle.std.proofs.lemmas.Bool.{false≢true}
use Rattle.model_syntax.specs.declared.sign.Sign.TheVariants as sign
use Rattle.model_syntax.specs.declared.token.TokenKind.{TokenKind}
use Rattle.model_syntax.specs.declared.token.TokenKind.TheVariants as kind
use Rattle.model_syntax.specs.declared.tree.Expr.{Expr}
use Rattle.model_syntax.specs.declared.tree.Assignment.{Assignment}
use Rattle.model_syntax.specs.declared.tree.Assignment.TheVariants as assignment
use Rattle.model_syntax.specs.declared.tree.Suffix.{Suffix}
use Rattle.model_syntax.specs.declared.tree.Target.{Target}
use Rattle.model_syntax.specs.declared.tree.Target.TheVariants.{ToProperty}
use Rattle.model_syntax.specs.Stream.{Stream, Places}
use Rattle.model_syntax.specs.Operators.{suffixed}
use Rattle.model_syntax.specs.Grammar.{SeesDot, dot, safe_dot, IsPrimary, Suffixes, suffixes_none, suffixes_property, suffixes_method, suffixes_index, IsTarget, target_property, IsAssign, assign_value, assign_up, assign_down}
use Rattle.groovy_expr.specs.Answers.{Rule, Agrees, Before, Stands, Inside, Exact, Refused, Viable}
use Rattle.groovy_expr.specs.Stops.{stops_primary, stops_simple}
use Rattle.groovy_expr.specs.Targets.{target_of}
use Rattle.groovy_expr.specs.Updates.{IsUpdate, update_value, update_up, update_down, is_update}
use Rattle.groovy_expr.specs.Firsts.{begins_suffix}
use Rattle.groovy_expr.proofs.Calculus.{alike, viable_more, inside_both, shorter, before, split}
use Rattle.groovy_expr.proofs.StatementCalculus.{FirstIn, a_name, long}
use Rattle.groovy_expr.proofs.StatementTargets.{target_expr, suffixes_append, suffixed_is, first_suffix}
use Rattle.groovy_expr.proofs.StatementSimple.{Update, Assigning, AssignEnd, update_begins, update_out}
use Rattle.groovy_expr.proofs.StatementFors.{past_suffix}

abbrev pub Primary : Places → Rule Expr
Primary P K = IsPrimary K P

abbrev pub OneSuffix : Places → Rule Suffix
OneSuffix P K s = Suffixes K P (s ∷ [])

update_primary : (t : Option TokenKind) → is_update t ≡ true → stops_primary t ≡ true
update_primary (Some (kind.Sign sign.Assign)) e = refl
update_primary (Some (kind.Sign sign.PlusAssign)) e = refl
update_primary (Some (kind.Sign sign.MinusAssign)) e = refl
update_primary (Some (kind.Sign sign.TimesAssign)) e = refl
update_primary (Some (kind.Sign sign.ModAssign)) e = refl
update_primary (Some (kind.Sign sign.Increment)) e = refl
update_primary (Some (kind.Sign sign.Decrement)) e = refl
update_primary t e = absurd (false≢true e)

update_no_suffix : (t : Option TokenKind) → is_update t ≡ true → begins_suffix t ≡ true → ⊥
update_no_suffix (Some (kind.Sign sign.Dot)) e f = false≢true e
update_no_suffix (Some (kind.Sign sign.SafeDot)) e f = false≢true e
update_no_suffix (Some (kind.Sign sign.BracketOpen)) e f = false≢true e
update_no_suffix t e f = false≢true f

suffix_primary : (t : Option TokenKind) → begins_suffix t ≡ true → stops_primary t ≡ true
suffix_primary (Some (kind.Sign sign.Dot)) e = refl
suffix_primary (Some (kind.Sign sign.SafeDot)) e = refl
suffix_primary (Some (kind.Sign sign.BracketOpen)) e = refl
suffix_primary t e = absurd (false≢true e)

dot_suffix : {J : Stream} {a : ℕ} {d : _} → SeesDot J a d → begins_suffix (J a) ≡ true
dot_suffix (dot h) = ap begins_suffix h
dot_suffix (safe_dot h) = ap begins_suffix h

suffix_first : {J : Stream} {P : Places} {s : Suffix} {ss : List Suffix} {a b : ℕ} → Suffixes J P (s ∷ ss) a b → begins_suffix (J a) ≡ true
suffix_first (suffixes_property d n r) = dot_suffix d
suffix_first (suffixes_method d n c r) = dot_suffix d
suffix_first (suffixes_index o e c r) = ap begins_suffix o

one_suffix_begins : (P : Places) → FirstIn (OneSuffix P) begins_suffix
one_suffix_begins P J y a b r = suffix_first r

suffixes_end : {J : Stream} {P : Places} {a b : ℕ} → Suffixes J P [] a b → b ≡ a
suffixes_end suffixes_none = refl

-- what suffixes before an update begin with
suffixes_stop : {J : Stream} {P : Places} (ss : List Suffix) {a b : ℕ} → Suffixes J P ss a b → is_update (J b) ≡ true → stops_primary (J a) ≡ true
suffixes_stop {J} [] r u = update_primary (J _) (ap (λ k. is_update (J k)) (sym (suffixes_end r)) ∙ u)
suffixes_stop {J} (s ∷ ss) r u = suffix_primary (J _) (suffix_first r)

-- an assignment is a primary with suffixes, and an update of what they write to
pub record Operated (J : Stream) (P : Places) (y : Assignment) (a b : ℕ) : Type 0 where
  pub primary : Expr
  pub suffixes : List Suffix
  pub middle : ℕ
  pub last : ℕ
  pub is_primary : IsPrimary J P primary a middle
  pub are_suffixes : Suffixes J P suffixes middle last
  pub updates : AssignEnd P (suffixed primary suffixes) J y last b

operated_target : {J : Stream} {P : Places} {t : Target} {y : Assignment} {a m b : ℕ} → IsTarget J P t a m → IsUpdate J P t y m b → Operated J P y a b
operated_target {J} {P} {t} {y} {a} {m} i u = let q = target_expr i in record { primary = q.0; suffixes = q.1; middle = q.2; last = m; is_primary = q.3; are_suffixes = q.4; updates = (t, q.5, u) }

operated : {J : Stream} {P : Places} {y : Assignment} {a b : ℕ} → IsAssign J P y a b → Operated J P y a b
operated (assign_value t s o e) = operated_target t (update_value s o e)
operated (assign_up t s) = operated_target t (update_up s)
operated (assign_down t s) = operated_target t (update_down s)

-- what a loop has read of an assignment: a primary and suffixes, up to n
pub record AssignLoop (K : Stream) (P : Places) (at : ℕ) (p : Expr) (done : List Suffix) (n : ℕ) : Type 0 where
  pub after : at ≤ n
  pub inside : Inside K at n
  pub spelled : (J : Stream) → Before n J K → stops_primary (J n) ≡ true → (m : ℕ) × IsPrimary J P p at m × Suffixes J P done m n
  pub only : (J : Stream) (y : Assignment) (b : ℕ) → Agrees n J K → IsAssign J P y at b → stops_simple (J b) ≡ true → (more : List Suffix) × (m : ℕ) × Suffixes J P more n m × AssignEnd P (suffixed p (done ++ more)) J y m b

-- behind a primary and suffixes, `.x++` makes an assignment of any of them
abbrev closing : List TokenKind
closing = kind.Sign sign.Dot ∷ kind.Name a_name ∷ kind.Sign sign.Increment ∷ []

closes_any : {J : Stream} {P : Places} {p : Expr} {ss : List Suffix} {a m n e : ℕ} → IsPrimary J P p a m → Suffixes J P ss m n → Stands J n closing e → (y : Assignment) × IsAssign J P y a e
closes_any {J} {P} {p} {ss} {a} {m} {n} {e} i s st = (assignment.Increment (ToProperty (suffixed p ss) a_name), subst (λ k. IsAssign J P (assignment.Increment (ToProperty (suffixed p ss) a_name)) a k) (sym st.1.1.1) (assign_up (target_property i s st.0 st.1.0) st.1.1.0))

module _ (K : Stream) (P : Places) {at : ℕ} where
  pub assign_primary : {p : Expr} {n : ℕ} → Exact (Primary P) stops_primary K at p n → AssignLoop K P at p [] n
  assign_primary {p} {n} e = record {
    after = e.after;
    inside = e.inside;
    spelled = λ J same so. (n, e.spelled J same so, suffixes_none);
    only = λ J y b same r st.
        let q = operated r in
        let o = e.only J q.primary q.middle same q.is_primary (suffixes_stop q.suffixes q.are_suffixes (update_begins q.updates.2)) in
        (q.suffixes, q.last, subst (λ k. Suffixes J P q.suffixes k q.last) o.1 q.are_suffixes, subst (λ x. AssignEnd P (suffixed x q.suffixes) J y q.last b) o.0 q.updates);
  }

  pub assign_primary_fails : {i : ℕ} → Refused (Primary P) stops_primary K at i → Refused (Assigning P) stops_simple K at i
  assign_primary_fails {i} f = record {
    from = f.from;
    inside = f.inside;
    never = λ J y b same r st. let q = operated r in f.never J q.primary q.middle same q.is_primary (suffixes_stop q.suffixes q.are_suffixes (update_begins q.updates.2));
    viable = record {
      closing = f.viable.closing ++ closing;
      closes = λ J e same st so.
          let c = split J e f.viable.closing closing i st in
          let v = f.viable.closes J c.0 same c.1 (ap stops_primary c.2.0) in
          closes_any v.1 suffixes_none c.2;
    };
  }

  module _ {p : Expr} (done : List Suffix) {n : ℕ} (g : AssignLoop K P at p done n) where
    module _ (h : begins_suffix (K n) ≡ true) where
      one_more : {J : Stream} {y : Assignment} {b : ℕ} → J n ≡ K n → ((more : List Suffix) × (m : ℕ) × Suffixes J P more n m × AssignEnd P (suffixed p (done ++ more)) J y m b) → (s : Suffix) × (more : List Suffix) × (k : ℕ) × (m : ℕ) × Suffixes J P (s ∷ []) n k × Suffixes J P more k m × AssignEnd P (suffixed p (done ++ s ∷ more)) J y m b
      one_more {J} same ([], m, r, u) = absurd (update_no_suffix (J n) (ap (λ k. is_update (J k)) (sym (suffixes_end r)) ∙ update_begins u.2) (ap begins_suffix same ∙ h))
      one_more same (s ∷ more, m, r, u) = let q = first_suffix r in (s, more, q.0, m, q.1, q.2, u)

      pub assign_suffix : {s : Suffix} {m : ℕ} → Exact (OneSuffix P) stops_primary K n s m → AssignLoop K P at p (done ++ s ∷ []) m
      assign_suffix {s} {m} e = let from = g.after in let lt = long begins_suffix (one_suffix_begins P) refl refl e in record {
        after = omega arith;
        inside = inside_both K at n m g.inside e.inside;
        spelled = λ J same so.
            let q = g.spelled J (before n m (omega arith) same) (suffix_primary (J n) (ap begins_suffix (same n lt) ∙ h)) in
            (q.0, q.1, suffixes_append q.2 (e.spelled J same so));
        only = λ J y b same r st.
            let q = one_more (same n (omega arith)) (g.only J y b (shorter n m (omega arith) same) r st) in
            let o = e.only J q.0 q.2 same q.4 (suffixes_stop q.1 q.5 (update_begins q.6.2)) in
            (q.1, q.3, subst (λ k. Suffixes J P q.1 k q.3) o.1 q.5, subst (λ w. AssignEnd P (suffixed p w) J y q.3 b) (ap (λ w. done ++ w ∷ q.1) o.0 ∙ sym (append_assoc done (s ∷ []) q.1)) q.6);
      }

      pub assign_suffix_fails : {i : ℕ} → Refused (OneSuffix P) stops_primary K n i → n < i → Refused (Assigning P) stops_simple K at i
      assign_suffix_fails {i} f lt = let from = g.after in record {
        from = omega arith;
        inside = inside_both K at n i g.inside f.inside;
        never = λ J y b same r st.
            let q = one_more (same n (omega arith)) (g.only J y b (shorter n i (omega arith) same) r st) in
            f.never J q.0 q.2 same q.4 (suffixes_stop q.1 q.5 (update_begins q.6.2));
        viable = record {
          closing = f.viable.closing ++ closing;
          closes = λ J e same st so.
              let c = split J e f.viable.closing closing i st in
              let v = f.viable.closes J c.0 same c.1 (ap stops_primary c.2.0) in
              let q = g.spelled J (before n i (omega arith) same) (suffix_primary (J n) (ap begins_suffix (same n lt) ∙ h)) in
              closes_any q.1 (suffixes_append q.2 v.1) c.2;
        };
      }

    -- no suffix goes on
    module _ (h : begins_suffix (K n) ≡ false) where
      no_more : {J : Stream} {y : Assignment} {b : ℕ} → J n ≡ K n → ((more : List Suffix) × (m : ℕ) × Suffixes J P more n m × AssignEnd P (suffixed p (done ++ more)) J y m b) → AssignEnd P (suffixed p done) J y n b
      no_more {J} {y} {b} same ([], m, r, u) = subst (λ k. AssignEnd P (suffixed p done) J y k b) (suffixes_end r) (subst (λ w. AssignEnd P (suffixed p w) J y m b) (append-nil done) u)
      no_more same (s ∷ more, m, r, u) = absurd (false≢true (sym h ∙ ap begins_suffix (sym same) ∙ suffix_first r))

      viable_any : Viable (Assigning P) stops_simple K at n
      viable_any = record {
        closing = closing;
        closes = λ J e same st so. let q = g.spelled J same (ap stops_primary st.0) in closes_any q.1 q.2 st;
      }

      pub assign_no_update : is_update (K n) ≡ false → Refused (Assigning P) stops_simple K at n
      assign_no_update u = record {
        from = g.after;
        inside = g.inside;
        never = λ J y b same r st.
            let q = no_more (same n (le_refl n)) (g.only J y b same r st) in
            false≢true (sym u ∙ ap is_update (sym (same n (le_refl n))) ∙ update_begins q.2);
        viable = viable_any;
      }

      pub assign_no_target : target_of (suffixed p done) ≡ None → Refused (Assigning P) stops_simple K at n
      assign_no_target t = record {
        from = g.after;
        inside = g.inside;
        never = λ J y b same r st. let q = no_more (same n (le_refl n)) (g.only J y b same r st) in no_some (sym t ∙ q.1);
        viable = viable_any;
      }
        where
          no_some : {t : Target} → None ≡ Some t → ⊥
          no_some z = cc

      module _ {t : Target} (o : target_of (suffixed p done) ≡ Some t) where
        same_target : {x : Target} → target_of (suffixed p done) ≡ Some x → x ≡ t
        same_target z = some_same (sym z ∙ o)
          where
            some_same : {a b : Target} → Some a ≡ Some b → a ≡ b
            some_same e = cc

        makes : {J : Stream} {y : Assignment} {i b : ℕ} → n ≤ i → Before i J K → IsUpdate J P t y n b → IsAssign J P y at b
        makes {J} le same u =
            let q = g.spelled J (before n _ le same) (update_primary (J n) (update_begins u)) in
            update_out (suffixed_is q.1 done q.2 o) u

        pub assign_ok : {y : Assignment} {m : ℕ} → Exact (Update P t) stops_simple K n y m → Exact (Assigning P) stops_simple K at y m
        assign_ok {y} {m} d = let from = g.after in let l = d.after in record {
          after = omega arith;
          inside = inside_both K at n m g.inside d.inside;
          spelled = λ J same so. makes d.after same (d.spelled J same so);
          only = λ J x b same r st.
              let q = no_more (same n d.after) (g.only J x b (shorter n m d.after same) r st) in
              d.only J x b same (subst (λ z. IsUpdate J P z x n b) (same_target q.1) q.2) st;
        }

        pub assign_update_fails : {i : ℕ} → Refused (Update P t) stops_simple K n i → Refused (Assigning P) stops_simple K at i
        assign_update_fails {i} d = let from = g.after in let l = d.from in record {
          from = omega arith;
          inside = inside_both K at n i g.inside d.inside;
          never = λ J x b same r st.
              let q = no_more (same n d.from) (g.only J x b (shorter n i d.from same) r st) in
              d.never J x b same (subst (λ z. IsUpdate J P z x n b) (same_target q.1) q.2) st;
          viable = viable_more (alike _) (λ J e same so v. (v.0, makes d.from same v.1)) d.viable;
        }

-- a suffix has a token
pub suffix_ahead : (K : Stream) (P : Places) {n m : ℕ} {s : Suffix} → Exact (OneSuffix P) stops_primary K n s m → n < m
suffix_ahead K P e = long begins_suffix (one_suffix_begins P) refl refl e

-- a suffix that is refused
pub suffix_refused : (K : Stream) (P : Places) {at : ℕ} {p : Expr} (done : List Suffix) {n : ℕ} → AssignLoop K P at p done n → begins_suffix (K n) ≡ true → {i : ℕ} → Refused (OneSuffix P) stops_primary K n i → Refused (Assigning P) stops_simple K at i
suffix_refused K P done g h f = let l = past_suffix h f in assign_suffix_fails K P done g h f (omega arith)
